pub mod Testing
pub mod descent
