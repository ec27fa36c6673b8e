pub mod Promises
pub mod Code
