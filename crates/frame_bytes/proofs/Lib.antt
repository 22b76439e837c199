pub mod BigEndianLaws
