pub mod KeptLaws
mod LoopLemmas
