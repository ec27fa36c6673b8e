-- What is sent, for any data and any frames. No receiver occurs in it.
pub mod Coding
pub mod Fic
pub mod Msc
