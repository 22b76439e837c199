pub mod Every
pub mod Any
pub mod Table
pub mod Part
pub mod Bound
