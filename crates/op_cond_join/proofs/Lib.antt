mod RowLemmas
mod JoiningLemmas
mod MappingLemmas
mod AssigningLemmas
mod AdmissionLemmas
