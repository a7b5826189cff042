-- The answers of finishing, and how work holds what is to be written. The definitions are those of `package/specs/Pack.antt`.
pub mod Joining
pub mod Sections
pub mod Writing
pub mod Ready
pub mod Finish
