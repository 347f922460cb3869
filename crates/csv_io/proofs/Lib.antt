mod ByteLemmas
mod FieldLemmas
mod QuoteLemmas
mod RecordLemmas
mod RowLemmas
pub mod TextLaws
mod TextLemmas
mod WriteLemmas
