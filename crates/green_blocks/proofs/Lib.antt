pub mod GreenBlock
