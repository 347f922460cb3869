pub mod Entries
pub mod FoundRows
pub mod Passes
pub mod RowsLeft
pub mod SameTables
