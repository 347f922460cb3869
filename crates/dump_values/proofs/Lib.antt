pub mod BackLaws
mod DumpBack
mod KeptLemmas
mod PairLemmas
mod RiseLemmas
pub use Rattle.json_members.proofs.TreeLemmas
