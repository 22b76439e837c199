pub mod ReadLaws
pub mod DirectionLaws
pub mod BufferBounds
pub mod RowLaws
pub mod RowGreen
pub mod GreenRow
pub mod RowHalves
pub mod ExtendedLaws
