mod PlaceLemmas
mod MappingLemmas
mod BackwardLemmas
mod AdmissionLemmas
