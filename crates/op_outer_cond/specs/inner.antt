pub mod Admitted
pub mod Mappings
