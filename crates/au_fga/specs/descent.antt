-- What only mirrors the code: tests of rows that are lent.
pub mod Candidates
pub mod Comparing
pub mod Rows
