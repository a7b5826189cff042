-- How work holds what is filed. Nothing here need be believed: it ties work words to `package/specs/Filing.antt`.
pub mod Tells
pub mod Counted
pub mod Judged
pub mod Contributing
pub mod State
pub mod Answers
pub mod Choices
pub mod ByPlace
pub mod Asked
pub mod ByObject
pub mod Tiled
