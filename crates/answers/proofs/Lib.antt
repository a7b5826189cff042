-- Laws on the answers of a call that writes.
pub mod Answering
