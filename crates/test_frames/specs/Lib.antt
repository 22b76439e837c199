pub mod Generator
pub mod Jump
pub mod TestFrame
