-- Many questions for one package: how they are written as words, when they are refused (38), and how they are answered.
pub mod Batch
pub mod Ties
