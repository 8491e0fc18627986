-- Laws of bytes and of records in bytes.
pub mod Parts
pub mod Splices
pub mod Numbers
pub mod Fields
pub mod Steps
pub mod Rows
pub mod Examples
