pub mod TestBytes
pub mod LongInput
