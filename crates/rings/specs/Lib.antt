pub mod Places
pub mod Traffic
pub mod Rings
pub mod Calls
pub mod Floods
pub mod Laws
pub mod Worked
