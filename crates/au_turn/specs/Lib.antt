pub mod Entries
pub mod View
pub mod Rule
pub mod Pass
pub mod EntryLaws
pub mod PassLaws
