pub mod Fit
pub mod ReadAgain
pub mod Examples
pub mod Says
pub mod Stages
pub mod Rows
pub mod Cuts
