-- What only mirrors the code: a query as it is held, the scan and the search midway, what is left of comparisons.
pub mod Inside
pub mod Outputs
pub mod Plans
pub mod Residuals
