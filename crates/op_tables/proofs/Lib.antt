mod PassLemmas
mod OverLemmas
pub mod SideLaws
