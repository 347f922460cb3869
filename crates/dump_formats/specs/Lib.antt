pub mod Formats
pub mod Stands
pub mod Laws
pub mod inner
pub use Rattle.dump_file.specs.Texts
pub use Rattle.migration.specs.Pending
