pub mod Behind
pub mod Deleting
pub mod Inside
pub mod Updating
