pub mod InitLaws
pub mod OneLaws
pub mod OptionLaws
pub mod SampleLaws
pub mod ServeLaws
pub mod WalkLaws
