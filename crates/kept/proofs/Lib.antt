-- Laws of the kept units in lent words.
-- RegionStores, RegionLending: what a store in one region leaves of the others, and a region that is lent.
pub mod RegionStores
pub mod RegionsNamed
pub mod RegionLending
pub mod Columning
pub mod Recording
pub mod Moved
pub mod Numbering
pub mod Seeking
pub mod Seen
pub mod Pieces
pub mod Indexing
pub mod Placing
pub mod Copying
pub mod Holding
pub mod Naming
pub mod SeenSlots
