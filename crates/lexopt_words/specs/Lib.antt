pub mod Codepoint
pub mod Forms
pub mod Message
pub mod Arguments
pub mod Answered
pub mod WordKinds
pub mod Conversions
pub mod Finish
