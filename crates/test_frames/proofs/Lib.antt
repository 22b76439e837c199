pub mod IterateLaws
pub mod JumpLaws
pub mod FrameLaws
pub mod NumberLaws
pub mod StripNumber
