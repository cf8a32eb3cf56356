pub mod Checks
pub mod Exports
pub mod Lines
pub mod Summaries
pub mod descent
