mod DigitLemmas
pub mod CursorsLaws
pub mod TokensWithinLaws
mod TextLemmas
pub mod WordLaws
pub mod LiteralLaws
mod OperatorLemmas
mod Comparisons
pub mod ExpressionLaws
mod ExpressionSteps
mod TokenValues
