-- Laws about the standard's definitions, for the crates above.
pub mod Bytes
pub mod Crc
pub mod Dispersal
pub mod Eep
pub mod FibExamples
pub mod Interleaving
pub mod MotherCode
pub mod Puncturing
pub mod Uep
