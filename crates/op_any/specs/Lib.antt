pub mod Edges
pub mod BuildJoins
pub mod Build
pub mod Texts
pub mod BuiltOn
pub use Rattle.op_kinds.specs.Operators
pub use Rattle.op_kinds.specs.Codes
pub use Rattle.op_kinds.specs.Views
