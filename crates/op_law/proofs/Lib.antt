pub mod IdentifierLaws
pub mod OnlyLaws
pub mod SoundLaws
pub mod SoundTermLaws
mod ChainLemmas
