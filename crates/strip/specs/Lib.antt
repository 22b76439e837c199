pub mod Strip
pub mod Demand
