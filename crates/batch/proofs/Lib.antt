-- Laws of the questions and of their answers.
pub mod Questions
pub mod Sizes
pub mod Answering
pub mod Examples
