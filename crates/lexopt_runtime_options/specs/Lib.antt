pub mod Faults
pub mod Texts
pub mod Combined
pub mod Shared
