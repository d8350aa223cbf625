pub mod Places
pub mod Nodes
pub mod Sound
pub mod Steady
pub mod Flow
pub mod Own
pub mod Loops
pub mod Late
mod Walks
pub mod Floods
mod Worked
