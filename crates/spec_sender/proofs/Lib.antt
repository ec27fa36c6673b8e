-- Laws of what is sent.
pub mod Coding
pub mod Fic
pub mod Msc
