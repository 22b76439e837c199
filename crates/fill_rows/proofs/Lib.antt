pub mod SideLaws
pub mod RowColours
pub mod FillRowLaws
pub mod FilledLaws
pub mod EdgeLaws
pub mod HalfFillLaws
