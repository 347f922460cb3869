mod NameLists
pub mod TableListsLaws
mod Suits
mod Placed
mod Ranges
mod SplitMergeLaws
mod DecomposeLaws
mod JoinLaws
pub mod BuiltLaws
mod Stops
mod RefusedJoins
mod RefusedForms
mod MadeTables
