-- ETSI EN 300 401, as definitions over plain numbers and lists.
pub mod Bytes
pub mod Crc
pub mod Directory
pub mod Dispersal
pub mod Eep
pub mod Fib
pub mod Interleaving
pub mod MotherCode
pub mod Organisation
pub mod Puncturing
pub mod Theorems
pub mod Uep
