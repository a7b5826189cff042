-- Laws of the definitions of reading a file.
pub mod Headers
pub mod Names
pub mod Judged
pub mod Targets
pub mod FirstUnit
pub mod Rooms
pub mod Opening
pub mod Opening32
pub mod Putting
pub mod Opened
pub mod Refusals
pub mod Held
pub mod Examples
pub mod Examples32
