pub mod Lookups
pub mod Places
