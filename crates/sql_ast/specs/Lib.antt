pub mod Attributes
pub mod Listed
pub mod Procedures
