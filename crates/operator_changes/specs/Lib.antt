pub mod Pairs
pub mod Parts
pub mod Footprint
pub mod Calls
pub mod AuxCalls
pub mod Laws
