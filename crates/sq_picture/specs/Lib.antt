pub mod Json
pub mod Pictures
pub mod Cutting
pub mod Sizes
pub mod Owners
pub mod KeyData
pub mod Asked
pub mod Proposal
