pub mod Tables
pub mod PlaneTests
pub mod PlaneTable
