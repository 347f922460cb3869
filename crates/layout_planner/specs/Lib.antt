pub mod Costs
pub mod Counts
pub mod Best
pub mod Laws
pub mod inner
