pub mod Image
pub mod descent
