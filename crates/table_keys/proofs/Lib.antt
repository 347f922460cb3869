pub mod KeyLaws
mod LoopLemmas
