pub mod ChainLaws
mod TargetLemmas
mod EdgeLemmas
mod BuiltLemmas
mod CreateLemmas
mod LayoutLemmas
pub mod BuiltOnLaws
pub mod KeptTextLaws
