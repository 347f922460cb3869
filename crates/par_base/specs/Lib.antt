pub mod Checked
pub mod Lends
pub mod Literals
pub mod Names
pub mod RowOrder
pub mod SameRows
pub mod inner
