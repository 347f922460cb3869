mod StayLemmas
mod ActLemmas
mod EndLemmas
mod TellLemmas
mod AskLemmas
mod LawLemmas
mod EventLemmas
