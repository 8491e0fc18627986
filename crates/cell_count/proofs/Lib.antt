-- Theorems on counts, and what the proofs of this crate's functions cite.
pub mod Sums
pub mod Counts
pub mod Inside
pub mod Triangles
pub mod Rows
pub mod Formula
pub mod Lengths
pub mod Counted
pub mod Examples
