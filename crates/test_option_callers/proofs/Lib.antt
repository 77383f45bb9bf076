pub mod Tool
pub mod Keyed
pub mod Completed
pub mod Printed
