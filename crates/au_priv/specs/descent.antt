pub mod Asking
pub mod Judging
pub mod Progressing
pub mod Standing
