pub mod Sought
pub use Rattle.op_seeks.specs.Found
pub use Rattle.op_seeks.specs.Places
pub use Rattle.op_seeks.specs.Seeking
pub use Rattle.op_seeks.specs.declared.place.SeekPlace
pub use Rattle.op_seeks.specs.declared.known.Known
pub use Rattle.op_seeks.specs.Closed
pub use Rattle.op_seeks.specs.Keys
