pub mod Conditions
pub mod Firing
pub mod Records
pub mod Statements
pub mod TrailRows
