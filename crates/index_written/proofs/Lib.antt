-- Facts on the slots and the length of an index that the program's functions need.
pub mod Laws
