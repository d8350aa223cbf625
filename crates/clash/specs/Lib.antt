pub mod Clashes
pub mod Notes
pub mod Places
pub mod Searches
pub mod Sightings
pub mod Views
