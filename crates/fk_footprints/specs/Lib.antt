pub mod Closed
pub mod JoinForward
pub mod JoinBackward
pub mod DecomposeBackward
pub mod DecomposeForward
