pub mod Heard
pub mod Theorems
