pub mod OneValueSpelling
pub mod Sample
pub mod ListedValues
