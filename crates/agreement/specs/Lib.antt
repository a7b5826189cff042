pub mod Agreement
pub mod Memory
