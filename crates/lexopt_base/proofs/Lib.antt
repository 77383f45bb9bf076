pub mod Refusals
pub mod States
pub mod Names
pub mod LongOptions
pub mod Ends
pub mod Fronts
pub mod ValueCalls
