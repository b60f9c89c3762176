-- ---- read: what is read was derived
-- queries as far as they are written
mod Drafts
-- tokens by cases
mod Toks
-- commas behind texts and between them
mod Rows
-- what signs and operators take
mod Settling
-- where a token leads from operands, operators, aggregations and labels
mod Advancing
-- where it leads from selectors, ranges and modifiers, and so from anything
mod Selections
-- what is read was derived
mod Spelled
-- no more nodes than bytes
mod Sizes
-- ---- canonical: what is derived is read, as one tree
-- a token that fits a terminal, as the reader sees it
mod Seen
-- tokens that lead from a state to another
mod Goes
-- labels and matchers with commas between them
mod Labels
-- selectors and their modifiers
mod Selecting
-- what may stand behind an operand
mod Behind
-- what an operand begins with
mod Fronts
-- what is held of a query
mod ReadOf
-- a derived query is read
mod Derived
-- what is held is what the query means
mod Meant
-- one tree for a text, and no refusal beside it
pub mod OneTree
-- ---- refuse: each refusal comes where those before it don't
-- whatever was read, some tokens end it
mod Completed
-- what a run answers
mod Verdicts
-- the same of a list of tokens
mod Answered
-- the scans for names and times, over a query
mod Scanned
-- the scans, token by token
mod Scanning
-- what the scans and the reading say of a text
mod Parsed
-- ---- steps of functions
-- the first of a list that is looked for
mod Among
-- where a text may not end
mod Endless
-- the height of arguments with another behind them
mod Heights
-- a run, one token at a time
mod Past
-- what takes an operand, one frame at a time
mod Settles
-- the top of a stack is the last of its list
mod Tops
