pub mod Cells
pub mod Comings
pub mod Free
pub mod Numbers
pub mod Refused
pub mod Standing
