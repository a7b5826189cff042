-- Rows by the place that they name, and parts of a section by their start, in lent words. Nothing here need be believed: it ties words to `naming` and
-- `tiles` of `index`.
pub mod Chains
pub mod Marks
