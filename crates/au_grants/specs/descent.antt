pub mod Boxing
pub mod Direct
pub mod Editing
pub mod Growing
pub mod Halving
pub mod Search
pub mod Spacious
pub mod Spared
