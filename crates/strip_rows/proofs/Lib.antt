pub mod GreenAmong
pub mod ColourRow
pub mod PlanesFromRows
pub mod ColourBlock
