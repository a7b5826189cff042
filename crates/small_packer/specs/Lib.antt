-- How the small packer's program writes a word (FORMAT 6.12).
pub mod Lines
