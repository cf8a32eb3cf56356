pub mod Answers
pub mod Combos
pub mod Counts
pub mod Fixed
pub mod Ordering
pub mod Queries
pub mod Refusals
pub mod descent
