pub mod KeyPlaces
pub mod KeyedElements
pub mod Neighbours
pub mod Results
