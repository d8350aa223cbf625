pub mod Ports
pub mod Addresses
pub mod Meanings
pub mod Calls
pub mod Laws
pub mod Data
