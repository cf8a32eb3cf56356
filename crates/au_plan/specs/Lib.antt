pub mod Planning
pub mod Plans
pub mod Inside
