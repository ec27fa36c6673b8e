pub mod Feeding
pub mod Frames
pub mod History
pub mod Ring
