pub mod Answering
pub mod Compared
pub mod Found
pub mod LawfulTables
pub mod Marked
pub mod Sorted
pub mod Tested
pub mod Touched
