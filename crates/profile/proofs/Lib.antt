-- What the proofs of the profile cite.
pub mod Bits
pub mod Objects
pub mod Verdicts
pub mod Examples
