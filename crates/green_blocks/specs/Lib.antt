pub mod Block
pub mod Room
