pub mod EntriesLemmas
pub mod RuleLemmas
pub mod PassLemmas
