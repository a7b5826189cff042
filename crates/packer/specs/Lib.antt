-- The small packer, what holds between the objects of a bundle, and answers in numbers. The packer's own definition is `packed` of `package/specs/Pack.antt`.
pub mod Small
pub mod Objects
pub mod Counted
pub mod Told
pub mod Zeros
