pub mod Marked
pub mod Wholes
pub mod Counted
pub mod Stages
pub mod LedStages
pub mod Complete
