pub mod Moves
pub mod Return
