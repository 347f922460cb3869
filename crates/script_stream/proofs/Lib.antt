mod PassedLemmas
pub mod HoldLaws
mod FeedLemmas
