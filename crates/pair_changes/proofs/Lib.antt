pub mod ChangedLaws
mod DifferLemmas
mod PutLemmas
mod TakeLemmas
mod TurnLemmas
