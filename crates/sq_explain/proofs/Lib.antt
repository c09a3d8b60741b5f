pub mod Lookups
mod Tellings
