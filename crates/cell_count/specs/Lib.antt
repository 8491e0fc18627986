-- What the contracts of the cell count cite: counting by a test, the formula, the cases of the answer.
pub mod Count
pub mod Area
