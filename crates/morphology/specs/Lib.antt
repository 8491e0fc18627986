-- What a reader must believe of morphology: the operations on sets, the answers that the contracts cite, and the words of its theorems.
pub mod Sets
pub mod Marks
pub mod Operations
pub mod Folds
pub mod Premises
pub mod Cases
