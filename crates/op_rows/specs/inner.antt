pub mod CellLemmas
pub mod Merging
pub mod Passes
pub mod Tabulated
pub mod RowwiseAt
pub mod RowwiseLaws
pub mod RowwiseLocal
