pub mod Fill
pub mod Sample
pub mod Exact
