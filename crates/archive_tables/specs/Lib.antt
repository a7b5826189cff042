-- The rules of three tables: section names, columns of an index, widths of forms. And the statement that the tables of the source are what the rules give.
pub mod NameRule
pub mod ColumnRule
pub mod FormRule
pub mod Agreement
pub mod Rows
