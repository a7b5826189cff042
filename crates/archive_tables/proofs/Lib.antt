-- The agreement of the tables with their rules, and what the program's proofs cite.
pub mod Agreement
pub mod Named
