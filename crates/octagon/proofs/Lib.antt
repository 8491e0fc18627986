-- Theorems on octagons, and what proofs of functions on them cite.
pub mod Fields
pub mod Ranges
pub mod Within
pub mod Tight
pub mod Closing
pub mod Vertices
pub mod Map
pub mod Normalising
pub mod Outcomes
pub mod Refusals
pub mod Unique
pub mod Sides
pub mod NormalForms
pub mod Smallest
pub mod OneCell
pub mod Examples
