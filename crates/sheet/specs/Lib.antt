-- What the contracts and the theorems on sheets speak of: layouts, trailers, the order of records, the records of two sheets together, what
-- a sheet says and its bytes, what each call answers and leaves, the cases of its answers, and what the readers answer by the rules of the old
-- sheets alone.
pub mod Answers
pub mod Layout
pub mod Trailer
pub mod Bytes
pub mod Order
pub mod Merging
pub mod Sheets
pub mod Checking
pub mod Cases
pub mod Rows
pub mod Stored
pub mod StoredRecords
pub mod Writing
pub mod WritingCases
pub mod Joining
pub mod JoiningCases
pub mod Converting
pub mod ConvertingCases
pub mod OldSheets
