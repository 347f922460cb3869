pub mod TokenLaws
mod BlankLemmas
mod KnownLemmas
pub mod ScriptLaws
pub mod UniqueLaws
mod LengthLemmas
mod PlaceLemmas
pub mod PlaceLaws
pub mod ComesLaws
pub mod TextLimitsLaws
mod CutTokens
mod CutBlanks
mod CutLengths
mod CutPlaces
mod CutBegins
pub mod CutLaws
pub mod LongLaws
mod MovedTokens
mod MovedLengths
pub mod MovedLaws
pub mod BlanksLaws
