pub mod Evaluated
pub mod Halves
pub mod Members
pub mod Placed
pub mod Told
pub mod Written
