mod SoughtLemmas
pub mod SplitLaws
