pub mod Rule
pub mod ExactClaim
pub mod WorkedExact
