pub mod Bound
pub mod Table
pub mod Spelling
pub mod Speller
pub mod Readings
pub mod Values
pub mod ItemText
pub mod Clusters
