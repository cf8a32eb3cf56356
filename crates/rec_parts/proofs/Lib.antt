mod CodeLaws
mod Counting
mod Elements
mod Names
mod PartLemmas
mod TableRows
