pub mod Tests
pub mod Theorems
