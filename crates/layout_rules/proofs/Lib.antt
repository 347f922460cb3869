pub mod LinkLaws
mod MoveLemmas
pub mod ChangeLaws
mod TreeLemmas
pub mod NeededLaws
pub mod LookupLaws
pub mod PassLaws
pub mod DownLaws
pub mod CloseLaws
pub mod WayLaws
mod WayPassLemmas
pub mod AfterLaws
mod ClosedLemmas
