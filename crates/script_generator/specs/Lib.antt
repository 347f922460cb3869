pub mod Generated
pub mod Summary
pub mod Laws
pub mod inner
