pub mod Cutting
pub mod Scan
