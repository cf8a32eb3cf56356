pub mod BuiltInTables
pub mod Inside
pub mod Sights
pub mod Sound
pub mod Rights
pub mod Selecting
pub mod Cutting
pub mod Plans
