pub mod FirstFaults
pub mod Repeated
pub mod BadLists
pub mod OptionNames
pub mod SharedOptions
