pub mod Cases
pub mod Kinds
pub mod Rulings
pub mod Sound
