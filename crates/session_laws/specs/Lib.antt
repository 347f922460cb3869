pub mod Sessions
pub mod Beside
pub mod Lines
pub mod Moves
pub mod Said
pub mod Kept
pub mod Written
pub use Rattle.engine_sessions.specs.Found
