-- What is computed of the listing in lent memory.
pub mod Examples
