pub mod Evolve
pub mod Plans
pub mod KeptTexts
