pub mod Backs
pub mod Beside
pub mod Counts
pub mod Lasts
pub mod Mapped
pub mod Records
pub mod Tests
pub mod Trails
