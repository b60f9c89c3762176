pub mod Alike
pub mod Asked
pub mod Blanks
pub mod Digits
pub mod Follows
pub mod Going
pub mod IdLists
pub mod LineTexts
pub mod StepLines
mod WorkedLines
