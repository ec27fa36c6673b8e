pub mod Answers
pub mod Bits
