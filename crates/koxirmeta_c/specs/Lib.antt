-- What the contracts of the exported functions cite.
pub mod Calls
pub mod Outlines
pub mod Splits
pub mod Tapes
pub mod Clearances
pub mod Sheets
pub mod Spectra
