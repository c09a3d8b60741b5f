mod Flat
mod Tellings
pub mod Values
pub mod Answers
pub mod Weighing
pub mod Parts
pub mod OwnerLines
pub mod Proposing
