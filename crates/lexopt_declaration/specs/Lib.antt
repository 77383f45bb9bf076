pub mod Models
pub mod Declarations
pub mod Texts
pub mod Lookups
pub mod Rows
pub mod Candidates
pub mod Scripts
