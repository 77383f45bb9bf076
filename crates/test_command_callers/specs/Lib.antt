pub mod AnyCommands
pub mod Tasks
pub mod Texts
