-- What the contracts of this crate and of those above it cite of the integers.
pub mod Minimum
pub mod Range
