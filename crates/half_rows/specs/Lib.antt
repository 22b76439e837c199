pub mod HalfRow
