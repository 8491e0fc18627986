-- Theorems on decomposition, and what proofs of functions on it cite.
pub mod LastStep
pub mod Table
pub mod Sides
pub mod Pairs
pub mod Found
pub mod Rests
pub mod Choice
pub mod Order
pub mod Added
pub mod Exact
pub mod Rebuilding
pub mod Decompositions
pub mod Exchange
pub mod ByCases
pub mod Examples
