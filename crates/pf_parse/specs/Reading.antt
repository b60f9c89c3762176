-- How a query is read: a machine with a stack of what is open, a step for each token. This project's own.
use Rattle.std.specs.Prelude.{ℕ, ℤ, pos, nat_abs, int_le, suc, zero, ◌&&◌, Bool, true, false, not, cond, codes, List, [], ◌∷◌, ◌++◌, nat_eq, nat_le, Option, Some, None, Result, Ok, Err, option_map}
use Rattle.std.specs.Option.{option_and_then, is_none}
use Rattle.std.specs.Str.{bytes_eq}
use Rattle.pf_base.specs.NumberTexts as front
use Rattle.pf_lex.specs.declared.token.Mark.TheVariants as mark
use Rattle.pf_model.specs.Clauses.{Grouped, Matched}
use Rattle.pf_model.specs.declared.expr.At.{At}
use Rattle.pf_model.specs.declared.expr.At.TheVariants as at
use Rattle.pf_model.specs.declared.expr.BinaryOp.{BinaryOp}
use Rattle.pf_model.specs.declared.expr.Function.{Function}
use Rattle.pf_model.specs.declared.expr.Matcher.{Matcher}
use Rattle.pf_model.specs.declared.expr.MatchSign.{MatchSign}
use Rattle.pf_model.specs.declared.expr.MatchSign.TheVariants as match
use Rattle.pf_model.specs.declared.expr.Side.TheVariants as side
use Rattle.pf_model.specs.declared.functions.AggOp.{AggOp}
use Rattle.pf_model.specs.declared.functions.Sign.{Sign}
use Rattle.pf_model.specs.Grammar.{has_colon, millis_of}
use Rattle.pf_model.specs.Trees.{Tree}
use Rattle.pf_model.specs.Trees as tree
use Rattle.pf_model.specs.Words.{function_of, level_of, is_comparison}
pub use Rattle.pf_parse.specs.declared.mode.Base.{Base}
pub use Rattle.pf_parse.specs.declared.mode.Base.TheVariants.{Matchers as matchers, Operand as operand}
pub use Rattle.pf_parse.specs.declared.mode.Callee.{Callee}
pub use Rattle.pf_parse.specs.declared.mode.Callee.TheVariants.{Function as function, Aggregation as aggregation}
pub use Rattle.pf_parse.specs.declared.mode.Frame.{Frame}
pub use Rattle.pf_parse.specs.declared.mode.Frame.TheVariants.{Signed as signed, Left as left, Bracket as bracket, Calling as calling}
pub use Rattle.pf_parse.specs.declared.mode.Purpose.{Purpose}
pub use Rattle.pf_parse.specs.declared.mode.Purpose.TheVariants.{GroupsNext as groups_next, Groups as groups, Matches as matches, Includes as includes}
use Rattle.pf_parse.specs.declared.keyword.Keyword.TheVariants as keyword
use Rattle.pf_parse.specs.Held.{Held, held_unary, held_binary, with_argument, held_call, held_aggregate, Target, selector, Read, nothing_read, held_target, offset_of, ranged, over, over_by}
use Rattle.pf_parse.specs.Lexemes.{Lexeme, word, number, duration, string, sign, within_limit, match_mark, Follow, operates, opens_square, separates, closes, stops, follow_of}

-- what was read last; times are none where they are past the greatest
pub data Mode : Type 0 where
  due : Mode
  first_due : Option Function → Mode
  named : List ℕ → Mode
  label_due : (has_name : Bool) → List Matcher → Mode
  sign_due : (has_name : Bool) → List Matcher → (label : List ℕ) → Mode
  text_due : (has_name : Bool) → List Matcher → (label : List ℕ) → MatchSign → Mode
  matched : (has_name : Bool) → List Matcher → Mode
  modified : Option Target → Read → Mode
  offset_due : Option Target → Read → Mode
  minus_offset_due : Option Target → Read → Mode
  time_due : Option Target → Read → Mode
  signed_time_due : Option Target → Read → (minus : Bool) → Mode
  end_open_due : Option Target → Read → At → Mode
  end_close_due : Option Target → Read → At → Mode
  range_due : Base → Mode
  range : Base → Option ℕ → Mode
  resolution_due : Held → Option ℕ → Mode
  resolution : Held → (range : Option ℕ) → Option ℕ → Mode
  whole : Held → Mode
  operated : BinaryOp → Held → Mode
  keyed : BinaryOp → Matched → Held → Mode
  grouped : BinaryOp → Matched → Held → Mode
  clause_due : AggOp → Mode
  arguments_due : AggOp → Grouped → Mode
  aggregated : AggOp → Option (List Tree) → Mode
  labels_due : Purpose → Mode
  labels : Purpose → List (List ℕ) → Mode
  labelled : Purpose → List (List ℕ) → Mode

pub record State : Type 0 where
  pub mode : Mode
  pub stack : List Frame

abbrev pub to : Mode → List Frame → Option State
to m k = Some (record { mode = m; stack = k })

abbrev pub to_if : Bool → Mode → List Frame → Option State
to_if test m k = cond test (to m k) None

-- ---- operands

abbrev pub due_step : List Frame → Lexeme → Option State
due_step k (number n) = to (whole (Some (tree.number n))) k
due_step k (string s) = to (whole (Some (tree.text s))) k
due_step k (sign (Some mark.Open)) = to due (bracket ∷ k)
due_step k (sign (Some mark.OpenBrace)) = to (label_due false []) k
due_step k (sign (Some mark.Plus)) = to due (signed false ∷ k)
due_step k (sign (Some mark.Minus)) = to due (signed true ∷ k)
due_step k (word (Some (keyword.Aggregation op)) w) = to (clause_due op) k
due_step k (word None w) = to (named w) k
due_step k _ = None

abbrev pub first_step : Option Function → List Frame → Lexeme → Option State
first_step f k (sign (Some mark.Close)) = to (whole (held_call f (Some []))) k
first_step f k x = due_step (calling (function f) (Some []) ∷ k) x

-- ---- what closes an operand

pub record Settled : Type 0 where
  pub held : Held
  pub stack : List Frame

-- the signs, and the operators that bind at least as close, take the operand
abbrev pub settle : (level : ℕ) → Held → List Frame → Settled
settle level e [] = record { held = e; stack = [] }
settle level e (signed minus ∷ k) = settle level (held_unary minus e) k
settle level e (left op m a ∷ k) =
    cond (nat_le (level_of op.sign) level) (settle level (held_binary op m a e) k) (record { held = e; stack = left op m a ∷ k })
settle level e (bracket ∷ k) = record { held = e; stack = bracket ∷ k }
settle level e (calling c args ∷ k) = record { held = e; stack = calling c args ∷ k }

abbrev pub last_level : ℕ
last_level = 6

abbrev pub called : Callee → Option (List Tree) → Mode
called (function f) args = whole (held_call f args)
called (aggregation op (Some g)) args = whole (held_aggregate op g args)
called (aggregation op None) args = aggregated op args

abbrev pub closed : Held → List Frame → Option State
closed e (bracket ∷ k) = to (whole e) k
closed e (calling c args ∷ k) = to (called c (with_argument args e)) k
closed e _ = None

abbrev pub separated : Held → List Frame → Option State
separated e (calling c args ∷ k) = to due (calling c (with_argument args e) ∷ k)
separated e _ = None

abbrev pub operates_on : Sign → Settled → Option State
operates_on s t = to (operated (record { sign = s; with_bool = false }) t.held) t.stack

abbrev pub followed : Follow → Held → List Frame → Option State
followed (operates s) e k = operates_on s (settle (level_of s) e k)
followed opens_square e k = to (range_due (operand e)) k
followed separates e k = let t = settle last_level e k in separated t.held t.stack
followed closes e k = let t = settle last_level e k in closed t.held t.stack
followed stops e k = None

abbrev pub whole_step : Held → List Frame → Lexeme → Option State
whole_step e k x = followed (follow_of x) e k

-- ---- selectors

abbrev pub metric : List ℕ → Matcher
metric name = record { label = codes "__name__"; sign = match.Equal; text = name }

abbrev pub is_name : List ℕ → Bool
is_name label = bytes_eq label (codes "__name__")

abbrev pub label_step : Bool → List Matcher → List Frame → Lexeme → Option State
label_step has_name ms k (word kw w) = to_if (not (has_colon w) && not (has_name && is_name w)) (sign_due has_name ms w) k
label_step has_name ms k (sign (Some mark.CloseBrace)) = to (modified (Some (selector ms None)) nothing_read) k
label_step has_name ms k _ = None

abbrev pub sign_step : Bool → List Matcher → List ℕ → List Frame → Lexeme → Option State
sign_step has_name ms label k (sign (Some m)) = option_and_then (λ s. to (text_due has_name ms label s) k) (match_mark m)
sign_step has_name ms label k _ = None

abbrev pub text_step : Bool → List Matcher → List ℕ → MatchSign → List Frame → Lexeme → Option State
text_step has_name ms label s k (string bytes) =
    to (matched has_name (ms ++ (record { label = label; sign = s; text = bytes } ∷ []))) k
text_step has_name ms label s k _ = None

abbrev pub matched_step : Bool → List Matcher → List Frame → Lexeme → Option State
matched_step has_name ms k (sign (Some mark.Comma)) = to (label_due has_name ms) k
matched_step has_name ms k (sign (Some mark.CloseBrace)) = to (modified (Some (selector ms None)) nothing_read) k
matched_step has_name ms k _ = None

-- ---- modifiers

-- a selector alone may take a range
abbrev pub is_bare : Read → Bool
is_bare r = is_none r.offset && is_none r.at

abbrev pub bare_base : List Matcher → Read → Bool → Base
bare_base ms r true = matchers ms
bare_base ms r false = operand (held_target (Some (selector ms None)) r)

abbrev pub base_of : Option Target → Read → Base
base_of (Some (selector ms None)) r = bare_base ms r (is_bare r)
base_of target r = operand (held_target target r)

abbrev pub modified_step : Option Target → Read → List Frame → Lexeme → Option State
modified_step target r k (word (Some keyword.Offset) w) = to_if (is_none r.offset) (offset_due target r) k
modified_step target r k (sign (Some mark.At)) = to_if (is_none r.at) (time_due target r) k
modified_step target r k (sign (Some mark.OpenSquare)) = to (range_due (base_of target r)) k
modified_step target r k x = whole_step (held_target target r) k x

abbrev pub with_offset : Read → Option ℤ → Read
with_offset r o = record { offset = Some o; at = r.at }

abbrev pub with_at : Read → Option At → Read
with_at r a = record { offset = r.offset; at = Some a }

abbrev pub offset_step : Option Target → Read → List Frame → Lexeme → Option State
offset_step target r k (sign (Some mark.Minus)) = to (minus_offset_due target r) k
offset_step target r k (duration d) = to (modified target (with_offset r (offset_of false d))) k
offset_step target r k _ = None

abbrev pub minus_offset_step : Option Target → Read → List Frame → Lexeme → Option State
minus_offset_step target r k (duration d) = to (modified target (with_offset r (offset_of true d))) k
minus_offset_step target r k _ = None

-- the time of an `@`
abbrev pub time_at : front.Sign → ℤ → Option At
time_at s n = option_map at.Time (within_limit (nat_abs (millis_of s n)))

abbrev pub timed : Option Target → Read → front.Sign → ℤ → List Frame → Option State
timed target r s n k = to_if (int_le (pos 0) (millis_of s n)) (modified target (with_at r (time_at s n))) k

abbrev pub end_named : List ℕ → Option At
end_named w = cond (bytes_eq w (codes "start")) (Some at.Start) (cond (bytes_eq w (codes "end")) (Some at.End) None)

abbrev pub time_step : Option Target → Read → List Frame → Lexeme → Option State
time_step target r k (sign (Some mark.Plus)) = to (signed_time_due target r false) k
time_step target r k (sign (Some mark.Minus)) = to (signed_time_due target r true) k
time_step target r k (number n) = timed target r front.bare n k
time_step target r k (word kw w) = option_and_then (λ a. to (end_open_due target r a) k) (end_named w)
time_step target r k _ = None

abbrev pub sign_of : (minus : Bool) → front.Sign
sign_of minus = cond minus front.minus front.plus

abbrev pub signed_time_step : Option Target → Read → (minus : Bool) → List Frame → Lexeme → Option State
signed_time_step target r s k (number n) = timed target r (sign_of s) n k
signed_time_step target r s k _ = None

abbrev pub end_open_step : Option Target → Read → At → List Frame → Lexeme → Option State
end_open_step target r a k (sign (Some mark.Open)) = to (end_close_due target r a) k
end_open_step target r a k _ = None

abbrev pub end_close_step : Option Target → Read → At → List Frame → Lexeme → Option State
end_close_step target r a k (sign (Some mark.Close)) = to (modified target (with_at r (Some a))) k
end_close_step target r a k _ = None

-- ---- ranges and subqueries

abbrev pub is_positive : Option ℕ → Bool
is_positive None = true
is_positive (Some d) = not (nat_eq d 0)

abbrev pub range_step : Base → List Frame → Lexeme → Option State
range_step base k (duration d) = to_if (is_positive d) (range base d) k
range_step base k _ = None

abbrev pub base_held : Base → Held
base_held (matchers ms) = held_target (Some (selector ms None)) nothing_read
base_held (operand e) = e

abbrev pub range_end_step : Base → Option ℕ → List Frame → Lexeme → Option State
range_end_step (matchers ms) d k (sign (Some mark.CloseSquare)) = to (modified (ranged ms d) nothing_read) k
range_end_step base d k (sign (Some mark.Colon)) = to (resolution_due (base_held base) d) k
range_end_step base d k _ = None

abbrev pub resolution_step : Held → Option ℕ → List Frame → Lexeme → Option State
resolution_step e d k (duration r) = to_if (is_positive r) (resolution e d r) k
resolution_step e d k (sign (Some mark.CloseSquare)) = to (modified (over e d) nothing_read) k
resolution_step e d k _ = None

abbrev pub resolution_end_step : Held → Option ℕ → Option ℕ → List Frame → Lexeme → Option State
resolution_end_step e d r k (sign (Some mark.CloseSquare)) = to (modified (over_by e d r) nothing_read) k
resolution_end_step e d r k _ = None

-- ---- operators

abbrev pub no_keys : Matched
no_keys = record { on = false; labels = []; side = side.One; include = [] }

-- the right operand begins
abbrev pub right_step : BinaryOp → Matched → Held → List Frame → Lexeme → Option State
right_step op m a k x = due_step (left op m a ∷ k) x

abbrev pub with_bool : BinaryOp → BinaryOp
with_bool op = record { sign = op.sign; with_bool = true }

abbrev pub operated_step : BinaryOp → Held → List Frame → Lexeme → Option State
operated_step op a k (word (Some keyword.Bool) w) =
    to_if (is_comparison op.sign && not op.with_bool) (operated (with_bool op) a) k
operated_step op a k (word (Some (keyword.Keys on)) w) = to (labels_due (matches op a on)) k
operated_step op a k x = right_step op no_keys a k x

abbrev pub with_side : Matched → (left : Bool) → Matched
with_side m on_left = record { on = m.on; labels = m.labels; side = cond on_left side.Left side.Right; include = [] }

abbrev pub keyed_step : BinaryOp → Matched → Held → List Frame → Lexeme → Option State
keyed_step op m a k (word (Some (keyword.Group on_left)) w) = to (grouped op (with_side m on_left) a) k
keyed_step op m a k x = right_step op m a k x

abbrev pub grouped_step : BinaryOp → Matched → Held → List Frame → Lexeme → Option State
grouped_step op m a k (sign (Some mark.Open)) = to (labels (includes op m a) []) k
grouped_step op m a k x = right_step op m a k x

-- ---- aggregations

abbrev pub clause_step : AggOp → List Frame → Lexeme → Option State
clause_step op k (word (Some (keyword.Clause without)) w) = to (labels_due (groups_next op without)) k
clause_step op k (sign (Some mark.Open)) = to due (calling (aggregation op None) (Some []) ∷ k)
clause_step op k _ = None

abbrev pub arguments_step : AggOp → Grouped → List Frame → Lexeme → Option State
arguments_step op g k (sign (Some mark.Open)) = to due (calling (aggregation op (Some g)) (Some []) ∷ k)
arguments_step op g k _ = None

abbrev pub by_none : Grouped
by_none = record { without = false; labels = [] }

abbrev pub aggregated_step : AggOp → Option (List Tree) → List Frame → Lexeme → Option State
aggregated_step op args k (word (Some (keyword.Clause without)) w) = to (labels_due (groups op args without)) k
aggregated_step op args k x = whole_step (held_aggregate op by_none args) k x

-- ---- labels

abbrev pub labels_read : Purpose → List (List ℕ) → List Frame → State
labels_read (groups_next op without) ls k =
    record { mode = arguments_due op (record { without = without; labels = ls }); stack = k }
labels_read (groups op args without) ls k =
    record { mode = whole (held_aggregate op (record { without = without; labels = ls }) args); stack = k }
labels_read (matches op a on) ls k =
    record { mode = keyed op (record { on = on; labels = ls; side = side.One; include = [] }) a; stack = k }
labels_read (includes op m a) ls k =
    record { mode = due; stack = left op (record { on = m.on; labels = m.labels; side = m.side; include = ls }) a ∷ k }

abbrev pub labels_open_step : Purpose → List Frame → Lexeme → Option State
labels_open_step p k (sign (Some mark.Open)) = to (labels p []) k
labels_open_step p k _ = None

abbrev pub labels_step : Purpose → List (List ℕ) → List Frame → Lexeme → Option State
labels_step p ls k (word kw w) = to_if (not (has_colon w)) (labelled p (ls ++ (w ∷ []))) k
labels_step p ls k (sign (Some mark.Close)) = Some (labels_read p ls k)
labels_step p ls k _ = None

abbrev pub labelled_step : Purpose → List (List ℕ) → List Frame → Lexeme → Option State
labelled_step p ls k (sign (Some mark.Comma)) = to (labels p ls) k
labelled_step p ls k (sign (Some mark.Close)) = Some (labels_read p ls k)
labelled_step p ls k _ = None

-- ---- all

-- a name is a function's before a bracket, and else a metric's
abbrev pub named_step : List ℕ → List Frame → Lexeme → Option State
named_step w k (sign (Some mark.Open)) = to (first_due (function_of w)) k
named_step w k (sign (Some mark.OpenBrace)) = to (label_due true (metric w ∷ [])) k
named_step w k x = modified_step (Some (selector (metric w ∷ []) None)) nothing_read k x

abbrev pub step : Mode → List Frame → Lexeme → Option State
step due k x = due_step k x
step (first_due f) k x = first_step f k x
step (named w) k x = named_step w k x
step (label_due has_name ms) k x = label_step has_name ms k x
step (sign_due has_name ms l) k x = sign_step has_name ms l k x
step (text_due has_name ms l s) k x = text_step has_name ms l s k x
step (matched has_name ms) k x = matched_step has_name ms k x
step (modified target r) k x = modified_step target r k x
step (offset_due target r) k x = offset_step target r k x
step (minus_offset_due target r) k x = minus_offset_step target r k x
step (time_due target r) k x = time_step target r k x
step (signed_time_due target r s) k x = signed_time_step target r s k x
step (end_open_due target r a) k x = end_open_step target r a k x
step (end_close_due target r a) k x = end_close_step target r a k x
step (range_due base) k x = range_step base k x
step (range base d) k x = range_end_step base d k x
step (resolution_due e d) k x = resolution_step e d k x
step (resolution e d r) k x = resolution_end_step e d r k x
step (whole e) k x = whole_step e k x
step (operated op a) k x = operated_step op a k x
step (keyed op m a) k x = keyed_step op m a k x
step (grouped op m a) k x = grouped_step op m a k x
step (clause_due op) k x = clause_step op k x
step (arguments_due op g) k x = arguments_step op g k x
step (aggregated op args) k x = aggregated_step op args k x
step (labels_due p) k x = labels_open_step p k x
step (labels p ls) k x = labels_step p ls k x
step (labelled p ls) k x = labelled_step p ls k x

-- the text may end behind an operand where nothing but signs and operators is open
abbrev pub ended : Settled → Option Held
ended t = elim t.stack [ [] ↦ Some t.held | x ∷ xs ↦ None ]

abbrev pub whole_ends : Held → List Frame → Option Held
whole_ends e k = ended (settle last_level e k)

abbrev pub ends : Mode → List Frame → Option Held
ends (named w) k = whole_ends (held_target (Some (selector (metric w ∷ []) None)) nothing_read) k
ends (modified target r) k = whole_ends (held_target target r) k
ends (whole e) k = whole_ends e k
ends (aggregated op args) k = whole_ends (held_aggregate op by_none args) k
ends _ k = None

abbrev pub start : State
start = record { mode = due; stack = [] }

-- what the rest of a text gives, or the number of tokens before the first that is unexpected
abbrev pub at_end : Option Held → Result Held ℕ
at_end None = Err zero
at_end (Some e) = Ok e

abbrev pub counted : Result Held ℕ → Result Held ℕ
counted (Ok e) = Ok e
counted (Err n) = Err (suc n)

abbrev pub goes : Option State → (State → Result Held ℕ) → Result Held ℕ
goes None further = Err zero
goes (Some s) further = counted (further s)

abbrev pub run : State → List Lexeme → Result Held ℕ
run s [] = at_end (ends s.mode s.stack)
run s (x ∷ xs) = goes (step s.mode s.stack x) (λ t. run t xs)
