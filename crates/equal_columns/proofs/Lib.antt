pub mod ColumnLemmas
pub mod MatchLaws
mod KeyedLemmas
