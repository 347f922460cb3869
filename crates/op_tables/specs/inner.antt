pub mod CellFacts
pub mod Coming
