pub mod LoopLaws
pub mod Parts
pub mod Reading
pub mod Tables
