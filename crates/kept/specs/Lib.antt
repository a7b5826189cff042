-- The kept units in lent words, and an index written from them. Nothing here need be believed: it ties work words to the definitions of `index` and `package`.
-- Regions: where the regions of lent work lie. The definitions of packing know no work but its length.
pub mod Regions
pub mod Columns
pub mod Cells
pub mod Records
pub mod Slots
pub mod Indexed
pub mod Held
pub mod State
