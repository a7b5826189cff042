-- FORMAT 2: reading a bundle's words (1, 3), what an object word states (4), a bundle written. InitialLength: DWARF's, in units and str_offsets.
-- Next and Scan say what the functions of this crate answer, from these definitions.
pub mod Bundle
pub mod Encoding
pub mod Encoded
pub mod InitialLength
pub mod Written
pub mod Next
pub mod Scan
