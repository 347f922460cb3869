mod ListLemmas
mod WayLemmas
mod StoreLemmas
mod CostLemmas
mod BestLemmas
mod MoveLemmas
