mod CrossingLemmas
mod GrowingLemmas
mod PlaceLemmas
mod ReadingLemmas
