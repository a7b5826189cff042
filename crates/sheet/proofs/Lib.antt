-- The laws that the code of the sheet cites.
pub mod Examples
pub mod LawLines
pub mod LawMarks
pub mod LawSections
pub mod LawSlots
pub mod LawSifted
pub mod LawBlocks
pub mod LawLaid
pub mod LawIndex
pub mod LawTables
pub mod LawSheet
pub mod LawPlacing
pub mod LawCells
