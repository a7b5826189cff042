-- FORMAT 3: forms and their widths, abbreviation tables, the root, a unit with its identity (11, 12, 13).
pub mod Forms
pub mod Widths
pub mod Abbreviations
pub mod Tables
pub mod Trees
pub mod TableTrees
pub mod Root
pub mod Roots
pub mod Runs
pub mod UnitRead
pub mod TypeUnits
pub mod Headers
