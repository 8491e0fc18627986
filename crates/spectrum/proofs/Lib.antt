-- The theorems on spectra.
pub mod Walks
pub mod Once
pub mod Origins
pub mod Frames
pub mod Forms
pub mod Moves
pub mod MovedPlots
pub mod Cases
pub mod Lists
pub mod Ends
pub mod Losses
pub mod Progress
pub mod Computed
