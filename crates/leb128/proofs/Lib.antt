-- Laws of LEB128 numbers, and the proofs of their readers.
pub mod Taken
pub mod Local
pub mod Readers
pub mod Tenth
pub mod Examples
