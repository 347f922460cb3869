mod EntryLemmas
mod StillLemmas
mod RowLemmas
pub mod StandLaws
pub mod KeyedLaws
pub mod ChangedLaws
pub mod BroughtLaws
mod ReadLemmas
mod ShownLemmas
mod ForwardLemmas
mod BackwardLemmas
