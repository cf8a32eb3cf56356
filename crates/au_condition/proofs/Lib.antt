pub mod Codes
pub mod Standing
pub mod Tables
