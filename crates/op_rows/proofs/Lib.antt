mod AdmissionLemmas
mod LentLemmas
mod MergeLemmas
mod PassLemmas
mod PremiseLemmas
