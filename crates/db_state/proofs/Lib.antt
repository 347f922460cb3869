pub mod FieldLaws
pub mod FoundLaws
mod EmptyLemmas
pub mod AuxLaws
pub mod OnceLaws
pub mod PartLaws
pub mod BoundLaws
mod SeenLemmas
mod LocalLemmas
pub mod PassLaws
pub mod WayLemmas
mod CrossLemmas
mod PlaceLemmas
pub mod StoredLemmas
