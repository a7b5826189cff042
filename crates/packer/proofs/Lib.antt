-- The packer meets its contracts.
pub mod Counted
pub mod Outcomes
pub mod ObjectUnits
pub mod OneObject
pub mod Slots
pub mod Start
pub mod OverObjects
pub mod Clearing
pub mod Answered
pub mod Zeros
