-- What the proofs of several functions use.
pub mod Stores
pub mod Fitting
pub mod Mapped
pub mod Examples
pub mod SheetExamples
pub mod JoinExamples
pub mod ConvertExamples
pub mod TapeExamples
pub mod ClearanceExamples
pub mod SpectrumExamples
