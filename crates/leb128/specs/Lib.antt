-- LEB128 numbers, both kinds, with the limits that 12 sets.
pub mod Leb128
pub mod Answers
