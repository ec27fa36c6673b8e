pub mod Msc
