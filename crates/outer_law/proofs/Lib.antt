pub mod CountingLaws
mod RenewedLaws
mod AbsentLaws
mod EntryLaws
mod StillLaws
pub mod ForwardLaws
pub mod SubsetLaws
mod HalfLaws
mod StepLaws
mod ChoiceLaws
mod PlacedLaws
mod EndedLaws
pub mod StartLaws
pub mod BackwardLaws
mod WorkedRows
