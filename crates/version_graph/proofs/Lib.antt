mod LookLemmas
pub mod NameLaws
pub mod NodeLaws
pub mod SetLaws
pub mod TableLaws
pub mod TakenLaws
pub mod HeadingLaws
pub mod GrowLaws
pub mod EvolveLaws
pub mod WalkStepLaws
mod ShedLemmas
pub mod StayLaws
pub mod WalkLaws
pub mod PlaceLaws
mod FinishLemmas
mod HalvingLemmas
mod MarkLemmas
mod AscendLemmas
pub mod UnneededLaws
pub mod TreeLaws
pub mod BackLaws
