pub mod ChangesLaws
pub mod TakeLaws
pub mod CapacityLaws
pub mod StayLaws
mod PlaceLemmas
mod StepLemmas
mod SideLemmas
mod RoomLemmas
mod BackLemmas
mod MemoryLemmas
