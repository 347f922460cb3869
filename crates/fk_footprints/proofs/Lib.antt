mod PartLemmas
mod JoinPartLemmas
mod DrawPartLemmas
mod ReferPartLemmas
mod DecomposePartLemmas
mod DecomposeDrawLemmas
pub mod DecomposeRowLemmas
pub mod JoinForwardLaws
pub mod JoinBackwardLaws
pub mod DecomposeForwardLaws
pub mod DecomposeBackwardLaws
