pub mod Changing
pub mod Demand
pub mod Enabling
pub mod Frames
pub mod Imaging
pub mod Lawful
pub mod Matching
pub mod Replaying
