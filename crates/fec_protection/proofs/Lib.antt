-- Laws of descriptions that the proofs share, and that callers cite.
pub mod Accepted
pub mod Cases
pub mod Fields
pub mod Params
pub mod Profiles
pub mod Rows
pub mod Shapes
pub mod Sizes
pub mod Unique
