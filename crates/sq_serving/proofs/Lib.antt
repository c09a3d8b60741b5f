mod Follows
mod Portioned
mod Names
pub mod Changes
mod Queues
pub mod Desks
pub mod DeskEpochs
mod Sayings
mod Interleaved
pub mod Served
pub mod Written
pub mod Planned
pub mod Opened
mod GivenRows
mod Answered
mod Steps
mod Ended
pub mod WroteLines
mod Tallied
