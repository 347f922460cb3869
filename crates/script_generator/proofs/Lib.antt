mod PlaceLemmas
mod ShortLemmas
mod PhraseLemmas
mod OperatorLemmas
mod StatementLemmas
mod FrontLemmas
mod ScriptLemmas
mod SummaryLemmas
