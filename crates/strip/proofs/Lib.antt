pub mod StripLaws
pub mod Demand2
pub mod PreviewLaws
pub mod WholeFrame
pub mod Demand3
pub mod Demand3Met
