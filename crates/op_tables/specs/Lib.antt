pub mod SideTables
pub mod Lookups
pub mod Wide
pub mod inner
