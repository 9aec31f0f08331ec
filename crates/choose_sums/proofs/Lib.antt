pub mod Apart
pub mod Crossed
pub mod Eight
pub mod Four
pub mod KeyTops
pub mod Signs
pub mod AnyWidth
