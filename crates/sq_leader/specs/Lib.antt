pub mod Fault
pub mod LeaderValue
pub mod Marks
pub mod Segments
pub mod Leader
pub mod Calls
pub mod Leading
