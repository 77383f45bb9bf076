pub mod Messages
pub mod Models
pub mod Words
pub mod Lines
