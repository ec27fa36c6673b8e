pub mod Looked
pub mod Refusals
