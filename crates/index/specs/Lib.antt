-- FORMAT 5 and 6.7 to 6.9: indexes of both forms, probing, rows judged, an index written.
pub mod Columns
pub mod Index
pub mod Probing
pub mod Rows
pub mod Tiles
pub mod Written
pub mod Held
pub mod Cells
pub mod Contributed
