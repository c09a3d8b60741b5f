mod Subcommands
pub mod Numbers
mod Arguments
mod Clashes
mod CommandKeys
