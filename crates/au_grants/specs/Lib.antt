pub mod Changing
pub mod Holding
pub mod Order
pub mod Rights
pub mod Staging
pub mod descent
