-- Computed cases of what the contracts cite, and what reads and writes of parts come to.
pub mod Examples
pub mod Moves
