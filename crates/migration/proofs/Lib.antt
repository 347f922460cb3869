mod SideLemmas
mod TurnLemmas
mod CoverLemmas
mod ValueLemmas
mod PlaceLemmas
mod LeadLemmas
mod PrepareLemmas
mod AdoptLemmas
mod LeaveLemmas
mod CutLemmas
mod CountLemmas
pub mod StepLaws
pub mod PendingLaws
mod CloseLemmas
