pub mod Answers
pub mod Calls
pub mod Heard
pub mod Receiver
pub mod Stream
pub mod Theorems
