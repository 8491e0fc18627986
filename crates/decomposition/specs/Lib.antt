-- What contracts and theorems on decomposition cite: the pieces, document 01's rule, the numbers of kinds, the eight cases, the answers and
-- what they mean.
pub mod Pieces
pub mod Rule
pub mod Kinds
pub mod Pairs
pub mod Splitting
pub mod Meaning
