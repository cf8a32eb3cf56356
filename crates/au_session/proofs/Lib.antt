pub mod Backing
pub mod Closing
pub mod Exchanging
pub mod Giving
pub mod Requesting
pub mod Talking
pub mod Turning
