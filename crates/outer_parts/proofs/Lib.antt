mod ChoiceLemmas
mod AbsentLemmas
mod EntryLemmas
mod ShownLemmas
pub mod PartLaws
mod EntriesLemmas
mod RenewedLemmas
mod ForwardLaws
mod PlacedLemmas
mod StartLemmas
mod StandLemmas
mod BackwardLaws
mod WholeLaws
