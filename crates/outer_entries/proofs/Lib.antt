mod EntryLemmas
mod FindingLemmas
mod StandingLemmas
mod HalfRowLemmas
mod PlacingLemmas
mod StartLemmas
