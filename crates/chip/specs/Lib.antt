pub mod Octet
