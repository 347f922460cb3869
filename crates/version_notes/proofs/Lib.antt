mod ListLemmas
mod DifferenceLaws
mod NoteLaws
mod QuietLaws
pub mod RunLaws
pub mod WatchLaws
mod FirstLaws
pub mod ToldLaws
