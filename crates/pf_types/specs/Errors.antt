-- Why a text is no query, as plain data, and the words of it: this project's own.
use Rattle.std.specs.Prelude.{◌≡◌, ℕ, List, Option, None, Some, Result, Ok, Err}
use Rattle.std.specs.Option.{option_map, option_map_or}
use Rattle.pf_model.specs.ErrorTexts.{QueryFault, of_grammar, of_kinds, refused_pattern, empty_selector, memory_text, query_text}
use Rattle.pf_model.specs.Parsing.{Refusal, too_long, bad_token, too_deep, unexpected, unknown_name, time_too_large, too_tall}
use Rattle.pf_model.specs.Queries.{IsFaultOf}
use Rattle.pf_model.specs.Trees.{Tree, tree_of}
use Rattle.pf_model.specs.declared.expr.Expr.{Expr}
use Rattle.pf_parse.specs.declared.error.ParseError.{ParseError}
use Rattle.pf_parse.specs.declared.error.ParseError.TheVariants as grammar
use Rattle.pf_types.specs.Faults.{fault_of}
use Rattle.pf_types.specs.declared.bound.BindError.{BindError}
use Rattle.pf_types.specs.declared.bound.BindError.TheVariants as bind
use Rattle.pf_types.specs.declared.query.QueryError.{QueryError}
use Rattle.pf_types.specs.declared.query.QueryError.TheVariants as query

-- want of memory is no refusal
abbrev pub refusal_of : ParseError → Option Refusal
refusal_of grammar.TooLong = Some too_long
refusal_of (grammar.BadToken at) = Some (bad_token at)
refusal_of (grammar.TooDeep at) = Some (too_deep at)
refusal_of (grammar.Unexpected at) = Some (unexpected at)
refusal_of (grammar.UnknownName at) = Some (unknown_name at)
refusal_of (grammar.TimeTooLarge at) = Some (time_too_large at)
refusal_of grammar.TooTall = Some too_tall
refusal_of grammar.OutOfMemory = None

-- want of memory is no fault of a query
abbrev pub query_fault : QueryError → Option QueryFault
query_fault (query.Parse e) = option_map of_grammar (refusal_of e)
query_fault (query.Typing e) = Some (of_kinds (fault_of e))
query_fault (query.Pattern which) = Some (refused_pattern which)
query_fault (query.Empty which) = Some (empty_selector which)
query_fault query.OutOfMemory = None

-- a fault, where there is one, is that of the text, by the refused patterns
abbrev pub IsFaultFor : (refused : List (List ℕ)) → List ℕ → Option QueryFault → Type 0
IsFaultFor refused text None = Unit {0}
IsFaultFor refused text (Some fault) = IsFaultOf refused text fault

-- a query of this tree is answered with it, unless memory ran out
abbrev pub IsAnsweredWith : Tree → Result Expr QueryError → Type 0
IsAnsweredWith t (Ok e) = tree_of e ≡ t
IsAnsweredWith t (Err e) = e ≡ query.OutOfMemory

-- a parser's error as that of a query
abbrev pub unparsed : ParseError → QueryError
unparsed grammar.TooLong = query.Parse grammar.TooLong
unparsed (grammar.BadToken at) = query.Parse (grammar.BadToken at)
unparsed (grammar.TooDeep at) = query.Parse (grammar.TooDeep at)
unparsed (grammar.Unexpected at) = query.Parse (grammar.Unexpected at)
unparsed (grammar.UnknownName at) = query.Parse (grammar.UnknownName at)
unparsed (grammar.TimeTooLarge at) = query.Parse (grammar.TimeTooLarge at)
unparsed grammar.TooTall = query.Parse grammar.TooTall
unparsed grammar.OutOfMemory = query.OutOfMemory

-- why a query is not bound, as the error of its text
abbrev pub unbound : BindError → QueryError
unbound (bind.Pattern which) = query.Pattern which
unbound (bind.Empty which) = query.Empty which
unbound bind.OutOfMemory = query.OutOfMemory

abbrev pub words_of_error : QueryError → List ℕ
words_of_error e = option_map_or query_text (query_fault e) memory_text
