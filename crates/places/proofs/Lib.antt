-- Laws of chains and of marks.
pub mod Chaining
pub mod Marking
pub mod Walking
pub mod Parts
