mod AuxLemmas
pub mod DrawnLemmas
mod FootLemmas
mod LocalLemmas
mod LoopLemmas
pub mod MemoryLaws
mod PartLemmas
mod WholeLemmas
