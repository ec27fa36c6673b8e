pub mod Code
pub mod Decoders
pub mod Depuncturing
