pub mod Clients
pub mod Managers
pub mod Fits
mod Announces
pub mod Says
