-- ELF64 files read into bundles (31, 32, 33, 19, 18), and packages written as ELF64 files (36, 21, 37).
pub mod File
pub mod Reader
pub mod Elf32
pub mod Holds
pub mod Classes
pub mod Held
pub mod Writer
