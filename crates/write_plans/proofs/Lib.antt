mod ItemLemmas
pub mod WholeLemmas
mod SpreadLemmas
mod MemoryLemmas
pub mod PartLemmas
pub mod ApartLemmas
pub mod TreeLemmas
mod CopyLemmas
pub mod SeenLemmas
pub mod LeadLemmas
mod ToldLemmas
pub mod ShownLemmas
pub mod PartShownLemmas
mod AuxLemmas
pub mod PlanLemmas
mod AloneLemmas
mod ChangeLemmas
pub mod HoldLaws
pub mod UndoLaws
pub mod PlanLaws
