mod ChangeLemmas
mod EntryLemmas
mod OneTable
mod PassLemmas
mod PlaceLemmas
pub mod UndoLaws
