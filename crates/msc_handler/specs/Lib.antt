pub mod Code
pub mod Frames
pub mod History
pub mod Memory
pub mod Promises
pub mod Ring
