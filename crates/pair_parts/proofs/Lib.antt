mod CopyLemmas
pub mod MemoryLaws
pub mod SplitLaws
