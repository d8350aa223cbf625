pub mod Fields
pub mod Elements
pub mod Reading
pub mod Layout
pub mod Worked
