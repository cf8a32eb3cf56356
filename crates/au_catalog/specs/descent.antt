pub mod Editing
pub mod Keys
