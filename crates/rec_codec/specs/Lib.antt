pub mod Changes
pub mod Frames
pub mod Images
pub mod Records
pub mod descent
