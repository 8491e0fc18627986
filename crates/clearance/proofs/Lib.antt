-- Theorems on clearances, and what proofs of functions on them cite.
pub mod Squares
pub mod Reaches
pub mod DiscCells
pub mod Discs
pub mod Arms
pub mod Wide
pub mod Cases
pub mod Tested
pub mod Computed
