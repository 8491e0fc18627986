-- Theorems on outlines, and what proofs of functions on them cite.
pub mod Steps
pub mod Range
pub mod Closed
pub mod Drawn
pub mod Inside
pub mod TracingCases
pub mod Tracings
pub mod OneCell
pub mod Vertices
pub mod Lengths
pub mod RoundTrips
pub mod Over
pub mod Metres
pub mod Sameness
pub mod Derived
pub mod Computed
