pub mod FrameFile
pub mod LongFile
