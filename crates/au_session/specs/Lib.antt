pub mod Answered
pub mod Backed
pub mod Entries
pub mod Exchanges
pub mod Session
pub mod Spent
pub mod Stands
pub mod descent
