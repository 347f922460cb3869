pub mod Calls
pub mod DecomposePkLaws
pub mod DecomposeSingleLaws
pub mod JoinPkLaws
pub mod PartLemmas
