pub mod ExactLaws
pub mod Exactness
pub mod Given
pub mod Parts
pub mod PartsExact
pub mod Spelling
pub mod Tables
pub mod descent
