pub mod AnyLines
pub mod TaskHelp
pub mod TaskLines
pub mod TypedTasks
