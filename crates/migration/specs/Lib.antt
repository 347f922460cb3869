pub mod Sides
pub mod Pending
pub mod Places
pub mod Moved
pub mod MoveAnswers
pub mod Laws
