pub mod Inserting
pub mod Inside
