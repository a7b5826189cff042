-- Laws of the lookups: each case of each definition, and what is known of an answer.
pub mod Packages
pub mod Tables
pub mod Places
pub mod Answered
pub mod Told
pub mod Singles
pub mod Opened
pub mod Entering
pub mod Asked
pub mod Known
pub mod Searches
pub mod Lookups
pub mod Texts
pub mod Bounds
pub mod Refusing
pub mod Limits
pub mod Examples
