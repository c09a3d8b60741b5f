pub mod Calls
pub mod Conflicts
pub mod Pipes
