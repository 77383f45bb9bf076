pub mod Hex
pub mod QuotedPieces
pub mod Texts
pub mod Errors
pub mod Answered
