pub mod SmallerLaws
pub mod ShareLaws
pub mod MeanLaws
pub mod LiftLaws
pub mod FusionLaws
pub mod FusedBound
