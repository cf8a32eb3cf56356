pub mod Ends
pub mod descent
