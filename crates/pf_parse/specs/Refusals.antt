-- The refusals of a text as the code's own errors. This project's own.
use Rattle.std.specs.Prelude.{◌≡◌, ℕ, List, Result, Ok, Err}
use Rattle.pf_lex.specs.declared.token.LexError.{LexError}
use Rattle.pf_lex.specs.declared.token.LexError.TheVariants as lex
use Rattle.pf_model.specs.Parsing.{Refuses, too_long, bad_token, too_deep, unexpected, unknown_name, time_too_large, too_tall}
use Rattle.pf_model.specs.declared.expr.Expr.{Expr}
use Rattle.pf_model.specs.Trees.{Tree, tree_of}
use Rattle.pf_parse.specs.declared.error.ParseError.{ParseError}
use Rattle.pf_parse.specs.declared.error.ParseError.TheVariants as error

abbrev pub lexed : LexError → ParseError
lexed lex.TooLong = error.TooLong
lexed (lex.BadToken at) = error.BadToken at
lexed lex.OutOfMemory = error.OutOfMemory

-- a text is refused so, unless memory ran out
abbrev pub IsRefused : List ℕ → ParseError → Type 0
IsRefused text error.TooLong = Refuses text too_long
IsRefused text (error.BadToken at) = Refuses text (bad_token at)
IsRefused text (error.TooDeep at) = Refuses text (too_deep at)
IsRefused text (error.Unexpected at) = Refuses text (unexpected at)
IsRefused text (error.UnknownName at) = Refuses text (unknown_name at)
IsRefused text (error.TimeTooLarge at) = Refuses text (time_too_large at)
IsRefused text error.TooTall = Refuses text too_tall
IsRefused text error.OutOfMemory = Unit {0}

-- a text of this tree is answered with it, unless memory ran out
abbrev pub IsAnswered : Tree → Result Expr ParseError → Type 0
IsAnswered t (Ok e) = tree_of e ≡ t
IsAnswered t (Err e) = e ≡ error.OutOfMemory
