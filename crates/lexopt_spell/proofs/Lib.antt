mod Answered
mod FormRows
mod AddedRows
mod After
mod LastWord
mod Resumed
