pub mod Settling
pub mod Staging
pub mod descent
pub use Rattle.au_entries.specs.Changing
pub use Rattle.au_entries.specs.Demand
pub use Rattle.au_entries.specs.Enabling
pub use Rattle.au_entries.specs.Matching
