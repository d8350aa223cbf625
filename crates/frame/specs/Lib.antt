pub mod Fields
pub mod Shown
pub mod Checked
