pub mod Deciding
pub mod Enabling
pub mod Going
pub mod Looking
pub mod Names
pub mod Policies
