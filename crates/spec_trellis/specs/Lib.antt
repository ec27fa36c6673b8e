-- Document 01's trellis of the mother code: paths, scores, ties, the program that finds the best path, and what is proved of them.
pub mod Clean
pub mod Program
pub mod Theorems
pub mod Trellis
