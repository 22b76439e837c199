pub mod RoomLaws
pub mod AxisLaws
pub mod BlockLaws
pub mod FetchLaws
