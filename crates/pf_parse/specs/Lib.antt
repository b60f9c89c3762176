pub mod Held
pub mod Lexemes
pub mod Reading
pub mod Refusals
pub mod Scans
pub mod Shown
pub mod Stacks
