-- Laws of blocks, FIBs and their run, and that the promise allows one result.
pub mod Blocks
pub mod Cut
pub mod Fibs
pub mod Refusals
pub mod Run
pub mod Unique
