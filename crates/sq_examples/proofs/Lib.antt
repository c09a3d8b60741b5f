mod Reading
pub mod Coming
