pub mod Passwords
pub mod descent
