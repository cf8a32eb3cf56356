mod ActionLemmas
mod CalendarCounts
mod CalendarDays
pub mod Elements
mod FindLemmas
mod FirstRule
mod LikeLemmas
pub mod Members
mod MomentBack
mod MomentDigits
mod MomentPairs
mod MomentWritten
pub mod Placing
mod PrivilegeLemmas
pub mod SamenessDecides
pub mod SameLemmas
