mod BalanceLemmas
mod EditLemmas
mod EntryItemLemmas
mod FindLemmas
pub mod OrderLaws
mod PagesLemmas
mod PlaceLemmas
