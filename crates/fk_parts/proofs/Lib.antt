mod PartLemmas
mod ReferLemmas
mod GoalLemmas
mod DecomposeLemmas
mod JoinLemmas
mod RestLemmas
mod KeyLemmas
mod ClosingLemmas
pub mod PartLaws
