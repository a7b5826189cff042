-- The archive profile of a package.
pub mod Profile
pub mod Judged
