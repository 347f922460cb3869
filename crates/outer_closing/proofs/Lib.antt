mod OuterLemmas
mod ReplacedLemmas
mod KeptLemmas
mod SharedLemmas
mod FoundLemmas
mod LoneLemmas
mod BackwardLemmas
