pub mod Chain
pub mod Output
