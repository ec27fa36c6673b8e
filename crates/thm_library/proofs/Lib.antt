pub mod Agreement
pub mod Histories
pub mod Numbers
pub mod Stream
