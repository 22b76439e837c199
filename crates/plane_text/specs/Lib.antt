pub mod Statistics
pub mod Text
pub mod Written
