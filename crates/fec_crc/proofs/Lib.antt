-- Laws of the two tests.
pub mod Agree
pub mod Bits
pub mod Byte
