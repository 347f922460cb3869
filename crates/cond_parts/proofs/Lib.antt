pub mod MemoryLemmas
pub mod TableLemmas
pub mod JoinedLemmas
pub mod FilterLemmas
pub mod MatchLemmas
mod ShownLemmas
pub mod FootLemmas
mod ForwardLaws
pub mod GotLemmas
pub mod AssignedLemmas
pub mod StayLemmas
pub mod StandingLemmas
pub mod UnchangedLemmas
mod BackwardLaws
pub mod PartLaws
pub mod WholeLaws
