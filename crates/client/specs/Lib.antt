pub mod States
pub mod Machines
pub mod Rows
