pub mod MosaicBack
pub mod Rows
