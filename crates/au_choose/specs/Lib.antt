pub mod Choosing
pub mod Inside
