mod UseLemmas
mod AloneLemmas
mod SessionLemmas
mod CountLemmas
pub mod CountLaws
mod LineLemmas
mod MoveLemmas
mod SaidLemmas
mod FoundLemmas
mod NewRowLemmas
mod SetLemmas
mod PlanLemmas
mod GrownLemmas
mod KeptLemmas
mod WrittenLemmas
