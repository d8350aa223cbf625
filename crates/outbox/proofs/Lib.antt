mod Writes
pub mod Lays
