pub mod RowLines
pub mod Standing
pub mod Answered
