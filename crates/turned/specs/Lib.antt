pub mod Turning
pub mod Exchange
