pub mod Cuts
pub mod IdLists
pub mod LineCuts
pub mod Lines
