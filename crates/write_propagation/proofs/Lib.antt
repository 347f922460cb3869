mod CrossedLemmas
mod FootprintLemmas
mod PartRowsLemmas
mod PartFoundLemmas
mod PartTriedLemmas
mod OwnLemmas
