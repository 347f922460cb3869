mod ReadingLemmas
mod StayingLemmas
pub mod ShowingLemmas
pub mod ChangedLemmas
mod TakenLemmas
pub mod GivenLaws
