-- What contracts and theorems on spectra cite: the walk, the spectrum, the cases of the answer, and the same in sets.
pub mod Walks
pub mod Spectra
pub mod Answers
pub mod Cases
