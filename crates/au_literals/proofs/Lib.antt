pub mod Latest
pub mod Read
