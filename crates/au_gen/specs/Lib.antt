pub mod Sample
pub mod descent
