pub mod Links
pub mod Histories
pub mod Clients
pub mod Managers
pub mod Tables
pub mod Announcements
pub mod Saying
