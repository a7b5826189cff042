-- Laws on reading a file that was written: its headers, its names, its sections, and the encoding that the first unit states.
pub mod Headers
pub mod Names
pub mod Listed
pub mod Wanted
pub mod Front
pub mod Stated
pub mod FileRead
