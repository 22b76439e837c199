pub mod FrameTextLaws
