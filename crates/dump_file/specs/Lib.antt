pub mod Told
pub mod States
pub mod Stands
pub mod Laws
pub mod inner
pub use Rattle.dump_graph.specs.Texts
pub use Rattle.dump_graph.specs.Told as DumpGraphTold
