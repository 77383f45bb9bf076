pub mod Rows
pub mod Fronts
pub mod PieceSteps
pub mod LineLemmas
pub mod PlainFronts
pub mod ViewLemmas
