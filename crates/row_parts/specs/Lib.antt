pub mod RowCells
pub mod RowEdits
pub mod Places
pub mod Partition
pub mod inner
