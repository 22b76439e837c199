pub mod Rule
pub mod PlanesClaim
pub mod WorkedPlanes
