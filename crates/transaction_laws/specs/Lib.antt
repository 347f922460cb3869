pub mod Orderly
pub mod Laws
pub use Rattle.engine_transactions.specs.Serial
