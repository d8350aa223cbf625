pub mod Messages
pub mod Boxes
pub mod Rows
