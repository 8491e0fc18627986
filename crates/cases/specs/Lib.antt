-- The squared-paper cases of document 01 that are proved, its numbers, and document 02's.
pub mod Shorthand
pub mod Starred
pub mod Numbers
pub mod Edges
pub mod Enums
