pub mod Code
pub mod Descriptions
pub mod Params
pub mod Promises
pub mod Refusals
pub mod Theorems
