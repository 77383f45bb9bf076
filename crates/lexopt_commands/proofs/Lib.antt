pub mod Common
pub mod FirstFaults
pub mod Found
pub mod Entries
pub mod LinesRead
pub mod Wholes
