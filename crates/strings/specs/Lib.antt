-- FORMAT 4: entries (8), the string at an offset (9), the table of first uses, the sections written; and an index of the kept strings, for speed.
pub mod Strings
pub mod Answers
pub mod Indexed
pub mod Kept
pub mod Remembered
pub mod Objects
pub mod Headed
