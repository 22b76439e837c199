pub mod EveryLaws
pub mod PartLaws
pub mod PutLaws
pub mod TableLaws
pub mod JoinedLaws
pub mod BoundLaws
pub mod AnyLaws
pub mod EachLaws
