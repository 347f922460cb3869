pub mod SeekLemmas
pub mod DrawnLemmas
pub mod LeastLaws
pub mod ReferenceLemmas
