mod BuildingLemmas
mod GraphLemmas
mod NamingLemmas
mod OneLemmas
mod PlacingLemmas
mod TextLemmas
mod ToldLemmas
