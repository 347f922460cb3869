mod RowLemmas
pub mod KeptLaws
pub mod RowOfLaws
pub mod ColumnLaws
pub mod PinnedLaws
mod SetLemmas
mod StepLemmas
mod ToldLemmas
