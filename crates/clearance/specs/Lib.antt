-- What contracts and theorems on clearances cite: the disc, what `around` answers, and the same in words.
pub mod Disc
pub mod Clearing
pub mod Cases
