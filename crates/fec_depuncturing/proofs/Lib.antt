-- Laws of places filled from the front, of the regions of a profile, and of the promises.
pub mod Depunctures
pub mod Fills
pub mod Regions
pub mod Unique
