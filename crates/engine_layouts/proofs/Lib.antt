mod ShowLemmas
mod MoveLemmas
