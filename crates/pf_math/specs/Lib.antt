pub mod Arguments
pub mod EachValue
pub mod LabelTexts
pub mod Neighbours
pub mod Relabelling
