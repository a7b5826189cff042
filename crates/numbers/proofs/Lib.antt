-- Laws on the table of section names.
pub mod NameTable
pub mod Examples
