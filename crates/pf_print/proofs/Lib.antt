-- ---- canonical: the canonical text derives its tree alone, and is read as it
-- it derives its tree
mod CanonicalDerived
-- it is read as its tree, and derives no other
mod ReadBack
-- no other tree has it, and a tree with its range put in has one
mod OwnTexts
-- ---- print: each part is written as its text
-- what was written bit by bit
mod Pushes
-- texts with another before each
mod Separated
-- the text of each variant of a query
mod ExprTexts
-- escaped texts and numbers are texts
mod Escapes
-- the digits of a fraction of a second
mod Fractions
