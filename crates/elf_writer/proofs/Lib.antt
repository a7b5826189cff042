-- Laws that the proofs of the writer cite.
pub mod Codes
pub mod Headers
pub mod Cases
pub mod Loops
pub mod Headings
pub mod Names
pub mod Matched
pub mod Whole
pub mod Answering
pub mod Examples
