pub mod Found
pub mod Statements
pub mod Laws
pub mod Calls
pub use Rattle.engine_state.specs.AnyDatabase
