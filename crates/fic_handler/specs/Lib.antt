pub mod Blocks
pub mod Code
pub mod Promise
pub mod Theorems
