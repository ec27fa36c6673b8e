pub mod Calls
pub mod Entries
pub mod Fits
pub mod Long
pub mod Packed
pub mod Same
