pub mod Answering
pub mod NextLine
pub mod Sampling
pub mod Stretch
