pub mod Made
pub mod Taken
