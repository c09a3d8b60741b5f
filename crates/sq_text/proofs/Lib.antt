pub mod Ends
pub mod Ranges
pub mod Comings
pub mod Givens
pub mod Fronts
pub mod Buffers
pub mod Lengths
mod Places
pub mod Splits
pub mod DigitRun
pub mod NumberRun
pub mod Onto
pub mod HexRun
pub mod Shrinks
pub mod OpRun
pub mod Appending
pub mod HeaderRun
pub mod Moves
mod VerbWords
