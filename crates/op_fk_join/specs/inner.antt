pub mod Calls
pub mod JoinFacts
pub mod JoinTables
pub mod JoinLaws
pub mod JoinRead
pub mod ColumnLemmas
pub mod Admitted
