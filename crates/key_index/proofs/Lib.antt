pub mod BuildLemmas
mod EntryLemmas
mod FirstLemmas
mod FoundLemmas
mod PassLemmas
mod ReferenceLemmas
