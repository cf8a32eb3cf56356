pub mod Allowing
pub mod Deciding
pub mod Pairs
pub mod Walking
pub mod descent
