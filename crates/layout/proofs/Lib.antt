pub mod Spelled
pub mod Laid
pub mod Back
