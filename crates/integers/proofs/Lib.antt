-- Linear arithmetic on integers, and what proofs of signed code cite.
pub mod Parts
pub mod Linear
pub mod Tests
pub mod Between
pub mod Minimum
pub mod Range
pub mod Multiples
pub mod Products
