pub mod Fic
