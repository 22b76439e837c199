pub mod FrameBytes
