mod ApartLemmas
mod ConditionLemmas
mod OuterLemmas
mod OuterColumnLemmas
mod SeekLemmas
