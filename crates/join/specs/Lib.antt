-- Files joined to a bundle, and the package's words of a file.
pub mod Join
pub mod Open
pub mod Laws
pub mod Held
