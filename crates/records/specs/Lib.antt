-- What the contracts and theorems of the crates above speak of: texts, numbers and records in bytes.
pub mod Text
pub mod Numbers
pub mod Parts
pub mod Fields
pub mod Rows
