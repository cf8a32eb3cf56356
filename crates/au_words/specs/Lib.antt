pub mod Words
pub mod descent
