-- What the checks of this program are given.
pub mod Sections
