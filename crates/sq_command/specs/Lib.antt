pub mod Commands
pub mod Options
pub mod Owner
pub mod Demo
pub mod Serve
pub mod Line
pub mod Sizes
pub mod Texts
