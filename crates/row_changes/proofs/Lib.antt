pub mod ChangedLaws
pub mod DifferenceLaws
pub mod PickLaws
pub mod TouchedLaws
mod LoopLemmas
mod MergeLemmas
