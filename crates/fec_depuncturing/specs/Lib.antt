pub mod Code
pub mod Promises
pub mod Theorems
