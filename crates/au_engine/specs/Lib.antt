pub mod Counting
pub mod Imaging
pub mod Inside
pub mod Logons
pub mod Prepared
pub mod Reserved
pub mod Sessions
