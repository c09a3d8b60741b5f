pub mod Inserts
pub mod WidthLemmas
pub mod Pieces
pub mod Bare
