pub mod Columns
pub mod Fitting
pub mod Keys
pub mod Modifying
pub mod Targets
