mod Again
pub mod BehindLaws
mod ByteTests
mod Changes
mod Characters
mod Faults
pub mod FoundLaws
mod Held
pub mod ListedLaws
pub mod MovedLaws
pub mod ReadBackLaws
mod Runs
mod SkipLemmas
pub mod StableLaws
mod TextRuns
mod Turns
pub mod WithinLaws
