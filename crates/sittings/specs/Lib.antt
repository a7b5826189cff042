-- Packing in two sittings.
pub mod Sittings
