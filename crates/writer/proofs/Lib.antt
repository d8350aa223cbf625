pub mod Pens
pub mod Bodies
pub mod ReadBack
