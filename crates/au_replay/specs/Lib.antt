pub mod Reading
pub mod Sights
pub mod Touched
pub mod descent
