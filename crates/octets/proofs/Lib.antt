-- Laws of the definitions of this crate, which every later proof cites.
pub mod Checks
pub mod Refusals
pub mod Options
pub mod Parts
pub mod Numbers
pub mod Tables
pub mod Placed
pub mod Regions
pub mod Lists
pub mod Elements
pub mod Joined
pub mod Mapped
pub mod Fixed
pub mod ZeroBytes
