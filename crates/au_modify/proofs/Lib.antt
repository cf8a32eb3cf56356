pub mod Fits
pub mod Keyed
pub mod Known
