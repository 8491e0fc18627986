-- What the contracts on octagons cite: octagons, outcomes, cells and sets, one cell, the normal form, facts of each bound.
pub mod Octagon
pub mod Outcome
pub mod Cells
pub mod OneCell
pub mod NormalForm
pub mod Answers
pub mod Widths
pub mod Forms
pub mod Each
