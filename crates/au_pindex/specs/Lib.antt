pub mod Buckets
pub mod Changing
pub mod Indexing
pub mod Naming
pub mod Places
pub mod Staging
pub mod descent
