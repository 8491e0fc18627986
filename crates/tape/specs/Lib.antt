-- What contracts and theorems on tapes cite: the cell of a coordinate, the hull of octagons, what `enclose` answers, and the same in words.
pub mod Snapping
pub mod Hull
pub mod Enclosing
pub mod Cases
