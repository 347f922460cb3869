pub mod ReadersLaws
pub mod LastsLaws
mod Manys
mod Elses
pub mod ChainsLaws
pub mod FrontsLaws
pub mod StepsLaws
pub mod ListsLaws
pub mod LookaheadLaws
pub mod PrefixesLaws
pub mod SignsLaws
pub mod GroupsLaws
pub mod BoundedLaws
pub mod CarriesLaws
