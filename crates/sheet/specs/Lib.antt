-- FORMAT 9: the index on a printed page.
pub mod Sheet
pub mod Held
pub mod Laid
