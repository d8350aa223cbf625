-- The definitions that the contracts cite.
pub mod Cuts
pub mod Numbers
