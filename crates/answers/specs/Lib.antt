-- What a call that writes into a lent output answers, and what the output then holds.
pub mod Answers
pub mod Written
pub mod Outcome
