-- What the contracts of this crate cite: what the failure of a call means, and how many bytes were read.
pub mod Transfers
