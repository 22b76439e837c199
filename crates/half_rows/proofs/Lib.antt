pub mod HalfLaws
pub mod HalvesLaws
