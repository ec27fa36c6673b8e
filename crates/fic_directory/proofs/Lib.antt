pub mod Answers
pub mod Fibs
pub mod Figs
pub mod Found
pub mod Rows
pub mod Services
pub mod SubEntries
