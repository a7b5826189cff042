-- FORMAT 6: object checks (4 to 10, 34), units filed (11 to 16), the package (19, 18) and the answers of packing.
pub mod Pieces
pub mod Input
pub mod Filing
pub mod Pack
pub mod Units
