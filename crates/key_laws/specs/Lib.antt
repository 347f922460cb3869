pub mod Referring
pub mod Decomposed
pub mod JoinedByKey
pub mod PairsShown
pub mod PairsGiven
pub mod SidesShown
