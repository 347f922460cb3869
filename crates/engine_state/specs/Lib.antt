pub mod AnyDatabase
pub mod SharedChecks
pub mod Replies
pub use Rattle.op_any.specs.Operators
