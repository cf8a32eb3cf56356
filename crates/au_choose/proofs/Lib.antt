pub mod Choice
pub mod Locks
pub mod Members
pub mod Rows
pub mod Ways
