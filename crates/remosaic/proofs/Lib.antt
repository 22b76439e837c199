pub mod RowLaws
pub mod NumberLaws
pub mod MosaicLaws
pub mod ThereAndBack
