pub mod Tail
pub mod Law
pub mod First
