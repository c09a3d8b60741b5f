pub mod Version
pub mod PlanValue
pub mod Fault
pub mod Spelling
pub mod Reading
pub mod PlanFields
pub mod PlanText
