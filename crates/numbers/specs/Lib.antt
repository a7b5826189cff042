-- The numbers of sections, tables, versions, limits and refusals, each with its name, in one place (FORMAT 2.2, 13).
pub mod Sections
pub mod Tables
pub mod Limits
pub mod Refusals
pub mod Refused
pub mod Tabled
pub mod Names
