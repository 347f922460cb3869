mod FoundLemmas
mod ToldLemmas
mod LookLemmas
mod BroughtLemmas
mod ClosedLemmas
mod CallLemmas
