-- Laws about the trellis: the order of paths, the dynamic program that finds the best, the mother code, clean words.
pub mod Clean
pub mod CleanWord
pub mod MotherCode
pub mod Trellis
pub mod TrellisOrder
pub mod TrellisPass
pub mod TrellisProgram
pub mod TrellisShort
pub mod TrellisSpread
pub mod TrellisSubtracted
pub mod TrellisTrace
