pub mod TestLaws
pub mod NumberLaws
mod PlaceLemmas
pub mod AbsentLaws
pub mod DropLaws
pub mod OpenLaws
pub mod RowLaws
