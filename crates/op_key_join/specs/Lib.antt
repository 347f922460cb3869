pub mod Sides
pub mod Nulls
pub mod OtherPlaces
pub mod DecomposeSingle
pub mod DecomposePk
pub mod JoinPk
pub mod KeptRows
pub mod inner
