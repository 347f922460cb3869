pub mod Texts
pub mod Told
pub mod Graphs
pub mod Laws
pub mod inner
pub use Rattle.op_any.specs.Operators
