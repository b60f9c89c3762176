pub mod Finding
pub mod KeyOrder
pub mod KeyedJoins
pub mod OfOneKey
pub mod Repeats
pub mod Results
