pub mod Pens
pub mod Sent
pub mod Writing
