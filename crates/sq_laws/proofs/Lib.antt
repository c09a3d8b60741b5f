pub mod Effects
pub mod Spelled
pub mod FitHeaders
pub mod Steps
pub mod Histories
mod LineWords
mod Counts
mod TakenLines
mod TakenRows
mod TakenFamilies
mod ReadBackFit
mod Worlds
mod Kept
pub mod Says
pub mod Refused
pub mod Stages
pub mod Rows
pub mod Cuts
pub mod Headers
