pub mod OutputLaws
pub mod FrontLaws
mod StreamLemmas
mod ReadLemmas
mod RunLemmas
mod ToldLemmas
pub mod CutLaws
pub mod EndLaws
mod TextLemmas
pub mod SpelledLaws
