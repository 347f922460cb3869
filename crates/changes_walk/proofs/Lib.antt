mod SideLemmas
mod StepLemmas
mod NamedLemmas
mod CarryLemmas
pub mod StartLaws
pub mod PlaceLaws
pub mod ReachLaws
mod AuxiliaryLemmas
