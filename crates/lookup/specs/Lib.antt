-- FORMAT 7: both lookups with their refusals (21 to 26) and looks.
pub mod Lookup
pub mod Answers
