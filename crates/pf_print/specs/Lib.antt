pub mod OwnTexts
pub mod Printed
