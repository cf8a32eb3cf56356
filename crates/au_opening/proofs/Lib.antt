pub mod Circles
pub mod Pushed
pub mod Spelled
pub mod Standing
