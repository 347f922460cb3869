pub mod LinkLaws
pub mod OrderLaws
pub mod ReadLaws
pub mod CanonicalLaws
mod FlipLemmas
mod GrowLemmas
pub mod DropLaws
