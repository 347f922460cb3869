mod WordLaws
mod ChoiceLaws
mod KeyLaws
mod OperatorLaws
mod OperatorListLaws
mod TableLaws
pub mod StatementLaws
mod ReadSteps
mod ParsingLaws
mod WholeReads
pub mod WholeOperatorLaws
pub mod ScriptLaws
mod TextLaws
pub mod TextLengthsLaws
