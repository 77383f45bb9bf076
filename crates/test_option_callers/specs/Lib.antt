pub mod Tool
pub mod Keyed
pub mod Printed
pub mod Grouped
