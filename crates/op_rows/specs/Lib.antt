pub mod Cells
pub mod Held
pub mod Lent
pub mod RowMeaning
pub mod NearSides
pub mod RowCalls
pub mod AtEach
pub mod inner
