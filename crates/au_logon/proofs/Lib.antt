pub mod Admitted
pub mod Found
pub mod Raised
pub mod Read
