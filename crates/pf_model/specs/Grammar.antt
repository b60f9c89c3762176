-- The grammar of queries: how a query is written, and the tree that it means. Prometheus, Querying basics, Operators; which
-- brackets `group_left` and `group_right` take, and where words and zero durations are refused, is this project's own.
use Rattle.std.specs.Prelude.{◌≡◌, ℕ, ℤ, pos, neg_ℤ, nat_abs, int_div, int_le, ◌<◌, ◌≤◌, suc, ◌&&◌, Bool, true, false, not, cond, codes, List, [], ◌∷◌, ◌++◌, length, map, take, nat_eq, Option, Some, None, IfSome, option_map}
use Rattle.std.specs.List.{list_any}
use Rattle.std.specs.Option.{is_none, option_map_or}
use Rattle.std.specs.Str.{bytes_eq, str_to_ascii_lowercase}
use Rattle.pf_base.specs.NumberTexts as front
use Rattle.pf_model.specs.declared.expr.At.{At}
use Rattle.pf_model.specs.declared.expr.At.TheVariants as at
use Rattle.pf_model.specs.declared.expr.BinaryOp.{BinaryOp}
use Rattle.pf_model.specs.declared.expr.Matcher.{Matcher}
use Rattle.pf_model.specs.declared.expr.MatchSign.TheVariants as match
use Rattle.pf_model.specs.declared.expr.Mods.{Mods}
use Rattle.pf_model.specs.declared.expr.Side.{Side}
use Rattle.pf_model.specs.declared.expr.Side.TheVariants as side
use Rattle.pf_model.specs.declared.functions.AggOp.{AggOp}
use Rattle.pf_model.specs.Clauses.{Grouped, Matched}
use Rattle.pf_model.specs.Tokens as token
use Rattle.pf_model.specs.Trees.{Tree, Trees}
use Rattle.pf_model.specs.Trees as tree
use Rattle.pf_model.specs.Words.{is_keyword, function_of, aggregation_word, operator_text, level_of, is_comparison, is_set_operator, match_text}

-- ---- what the grammar wants of a token

pub data Terminal : Type 0 where
  -- a keyword, in any case of letters
  key : List ℕ → Terminal
  -- a metric's or a function's name: a word that is no keyword
  name : List ℕ → Terminal
  -- a label: a word without a colon, keywords too
  label : List ℕ → Terminal
  -- this very word
  exactly : List ℕ → Terminal
  sign : List ℕ → Terminal
  number : ℤ → Terminal
  duration : ℕ → Terminal
  string : List ℕ → Terminal

abbrev pub has_colon : List ℕ → Bool
has_colon word = list_any (nat_eq 58) word

abbrev pub Fits : Terminal → token.Sort → Type 0
Fits (key k) (token.word w) = str_to_ascii_lowercase w ≡ k
Fits (name n) (token.word w) = (w ≡ n) × (is_keyword w ≡ false)
Fits (label l) (token.word w) = (w ≡ l) × (has_colon w ≡ false)
Fits (exactly e) (token.word w) = w ≡ e
Fits (sign s) (token.sign t) = t ≡ s
Fits (number n) (token.number m) = m ≡ n
Fits (duration d) (token.duration m) = m ≡ d
Fits (string s) (token.string t) = t ≡ s
Fits _ _ = ⊥

abbrev pub FitAll : List Terminal → List token.Sort → Type 0
FitAll [] [] = Unit {0}
FitAll (t ∷ ts) (s ∷ ss) = Fits t s × FitAll ts ss
FitAll _ _ = ⊥

-- ---- how a query is written

-- labels in brackets, with a comma behind the last or not
pub record Labels : Type 0 where
  pub labels : List (List ℕ)
  pub comma : Bool

-- matchers in braces, with a comma behind the last or not
pub record Braces : Type 0 where
  pub matchers : List Matcher
  pub comma : Bool

-- a metric's name, matchers, or both
pub record Selected : Type 0 where
  pub metric : Option (List ℕ)
  pub braces : Option Braces

-- `offset` with a duration in milliseconds
pub record Offset : Type 0 where
  pub minus : Bool
  pub millis : ℕ

-- what stands behind `@`: seconds as micros with a sign or none, `start()` or `end()`
pub data AtModifier : Type 0 where
  time : front.Sign → ℤ → AtModifier
  start : AtModifier
  end : AtModifier

-- at most one `offset` and one `@`, in either order
pub record Modifiers : Type 0 where
  pub offset : Option Offset
  pub at : Option AtModifier
  pub at_first : Bool

-- an aggregation's `by` or `without`: none, before the arguments, or behind them
pub data Clause : Type 0 where
  absent : Clause
  before : (without : Bool) → Labels → Clause
  behind : (without : Bool) → Labels → Clause

-- `group_left` or `group_right`, and its labels
pub record Group : Type 0 where
  pub left : Bool
  pub include : Option Labels

-- `on` or `ignoring`
pub record Keys : Type 0 where
  pub on : Bool
  pub labels : Labels
  pub group : Option Group

mutual
  pub data Written : Type 0 where
    number : ℤ → Written
    text : List ℕ → Written
    brackets : Written → Written
    call : (name : List ℕ) → Arguments → Written
    aggregate : AggOp → Clause → Arguments → Written
    unary : (minus : Bool) → Written → Written
    binary : BinaryOp → Option Keys → Written → Written → Written
    select : Selected → (range : Option ℕ) → Modifiers → Written
    subquery : Written → (range : ℕ) → (resolution : Option ℕ) → Modifiers → Written

  pub data Arguments : Type 0 where
    none : Arguments
    more : Written → Arguments → Arguments

-- ---- its text

abbrev pub these : {A : Type 0} → (A → List Terminal) → Option A → List Terminal
these write None = []
these write (Some x) = write x

abbrev pub comma_if : Bool → List Terminal
comma_if false = []
comma_if true = sign (codes ",") ∷ []

abbrev pub commas_before : List (List Terminal) → List Terminal
commas_before [] = []
commas_before (x ∷ xs) = sign (codes ",") ∷ (x ++ commas_before xs)

-- texts with commas between them
abbrev pub listed : List (List Terminal) → List Terminal
listed [] = []
listed (x ∷ xs) = x ++ commas_before xs

abbrev pub labels_terminals : Labels → List Terminal
labels_terminals l = sign (codes "(") ∷ (listed (map (λ n. label n ∷ []) l.labels) ++ (comma_if l.comma ++ (sign (codes ")") ∷ [])))

abbrev pub matcher_terminals : Matcher → List Terminal
matcher_terminals m = label m.label ∷ sign (match_text m.sign) ∷ string m.text ∷ []

abbrev pub braces_terminals : Braces → List Terminal
braces_terminals b = sign (codes "{") ∷ (listed (map matcher_terminals b.matchers) ++ (comma_if b.comma ++ (sign (codes "}") ∷ [])))

abbrev pub selected_terminals : Selected → List Terminal
selected_terminals s = these (λ n. name n ∷ []) s.metric ++ these braces_terminals s.braces

abbrev pub minus_if : Bool → List Terminal
minus_if false = []
minus_if true = sign (codes "-") ∷ []

abbrev pub offset_terminals : Offset → List Terminal
offset_terminals o = key (codes "offset") ∷ (minus_if o.minus ++ (duration o.millis ∷ []))

abbrev pub front_terminals : front.Sign → List Terminal
front_terminals front.bare = []
front_terminals front.plus = sign (codes "+") ∷ []
front_terminals front.minus = sign (codes "-") ∷ []

abbrev pub at_modifier_terminals : AtModifier → List Terminal
at_modifier_terminals (time s micros) = sign (codes "@") ∷ (front_terminals s ++ (number micros ∷ []))
at_modifier_terminals start = sign (codes "@") ∷ exactly (codes "start") ∷ sign (codes "(") ∷ sign (codes ")") ∷ []
at_modifier_terminals end = sign (codes "@") ∷ exactly (codes "end") ∷ sign (codes "(") ∷ sign (codes ")") ∷ []

abbrev pub modifiers_terminals : Modifiers → List Terminal
modifiers_terminals m =
    cond m.at_first (these at_modifier_terminals m.at ++ these offset_terminals m.offset) (these offset_terminals m.offset ++ these at_modifier_terminals m.at)

abbrev pub range_terminals : ℕ → List Terminal
range_terminals range = sign (codes "[") ∷ duration range ∷ sign (codes "]") ∷ []

abbrev pub without_terminals : Bool → Labels → List Terminal
without_terminals false l = key (codes "by") ∷ labels_terminals l
without_terminals true l = key (codes "without") ∷ labels_terminals l

abbrev pub before_terminals : Clause → List Terminal
before_terminals absent = []
before_terminals (before without l) = without_terminals without l
before_terminals (behind without l) = []

abbrev pub behind_terminals : Clause → List Terminal
behind_terminals absent = []
behind_terminals (before without l) = []
behind_terminals (behind without l) = without_terminals without l

abbrev pub operator_terminal : BinaryOp → Terminal
operator_terminal op = cond (is_set_operator op.sign) (key (operator_text op.sign)) (sign (operator_text op.sign))

abbrev pub bool_terminals : Bool → List Terminal
bool_terminals false = []
bool_terminals true = key (codes "bool") ∷ []

abbrev pub group_terminals : Group → List Terminal
group_terminals g = key (cond g.left (codes "group_left") (codes "group_right")) ∷ these labels_terminals g.include

abbrev pub keys_terminals : Keys → List Terminal
keys_terminals k = key (cond k.on (codes "on") (codes "ignoring")) ∷ (labels_terminals k.labels ++ these group_terminals k.group)

abbrev mutual
  -- the terminals of a query in order
  pub terminals_of : Written → List Terminal
  terminals_of (number micros) = number micros ∷ []
  terminals_of (text bytes) = string bytes ∷ []
  terminals_of (brackets e) = sign (codes "(") ∷ (terminals_of e ++ (sign (codes ")") ∷ []))
  terminals_of (call f args) = name f ∷ sign (codes "(") ∷ (all_terminals args ++ (sign (codes ")") ∷ []))
  terminals_of (aggregate op clause args) =
      key (aggregation_word op)
      ∷ (before_terminals clause ++ (sign (codes "(") ∷ (all_terminals args ++ (sign (codes ")") ∷ behind_terminals clause))))
  terminals_of (unary minus e) = sign (cond minus (codes "-") (codes "+")) ∷ terminals_of e
  terminals_of (binary op keys a b) =
      terminals_of a ++ (operator_terminal op ∷ (bool_terminals op.with_bool ++ (these keys_terminals keys ++ terminals_of b)))
  terminals_of (select s range mods) = selected_terminals s ++ (these range_terminals range ++ modifiers_terminals mods)
  terminals_of (subquery e range resolution mods) =
      terminals_of e
      ++ (sign (codes "[") ∷ duration range ∷ sign (codes ":")
      ∷ (these (λ r. duration r ∷ []) resolution ++ (sign (codes "]") ∷ modifiers_terminals mods)))

  pub all_terminals : Arguments → List Terminal
  all_terminals none = []
  all_terminals (more e es) = terminals_of e ++ more_terminals es

  pub more_terminals : Arguments → List Terminal
  more_terminals none = []
  more_terminals (more e es) = sign (codes ",") ∷ (terminals_of e ++ more_terminals es)

-- ---- what may stand where

-- the level of what binds last: 0 for what stands alone, 1 for a sign, the operator's own for an operation
abbrev pub level : Written → ℕ
level (unary minus e) = 1
level (binary op keys a b) = level_of op.sign
level _ = 0

abbrev pub is_nil : {A : Type 0} → List A → Bool
is_nil [] = true
is_nil (x ∷ xs) = false

-- a comma stands only behind a label or a matcher
abbrev pub IsCommaLawful : {A : Type 0} → List A → Bool → Type 0
IsCommaLawful xs comma = (comma && is_nil xs) ≡ false

abbrev pub AreLabels : Labels → Type 0
AreLabels l = IsCommaLawful l.labels l.comma

abbrev pub is_named : Matcher → Bool
is_named m = bytes_eq m.label (codes "__name__")

abbrev pub AreBraces : Braces → Type 0
AreBraces b = IsCommaLawful b.matchers b.comma

-- a selector has a name or braces, and beside a name no matcher of `__name__`
abbrev pub AreSelected : Option (List ℕ) → Option Braces → Type 0
AreSelected None None = ⊥
AreSelected None (Some b) = AreBraces b
AreSelected (Some n) None = Unit {0}
AreSelected (Some n) (Some b) = AreBraces b × (list_any is_named b.matchers ≡ false)

-- the milliseconds of an `@`, cut toward zero
abbrev pub millis_of : front.Sign → ℤ → ℤ
millis_of front.bare micros = int_div micros (pos 1000)
millis_of front.plus micros = int_div micros (pos 1000)
millis_of front.minus micros = int_div (neg_ℤ micros) (pos 1000)

-- no time below zero
abbrev pub IsAtModifier : AtModifier → Type 0
IsAtModifier (time s micros) = int_le (pos 0) (millis_of s micros) ≡ true
IsAtModifier start = Unit {0}
IsAtModifier end = Unit {0}

abbrev pub AreModifiers : Modifiers → Type 0
AreModifiers m = IfSome m.at IsAtModifier

-- no range and no resolution is zero
abbrev pub IsPositive : ℕ → Type 0
IsPositive n = nat_eq n 0 ≡ false

abbrev pub IsClause : Clause → Type 0
IsClause absent = Unit {0}
IsClause (before without l) = AreLabels l
IsClause (behind without l) = AreLabels l

abbrev pub AreKeys : Keys → Type 0
AreKeys k = AreLabels k.labels × IfSome k.group (λ g. IfSome g.include AreLabels)

-- a `group_left` or `group_right` without labels
abbrev pub lacks_labels : Group → Bool
lacks_labels g = is_none g.include

abbrev pub ends_with_group : Option Keys → Bool
ends_with_group None = false
ends_with_group (Some k) = option_map_or lacks_labels k.group false

abbrev pub begins_with_bracket : List Terminal → Bool
begins_with_bracket (sign s ∷ ts) = bytes_eq s (codes "(")
begins_with_bracket _ = false

abbrev mutual
  -- operators bind by their levels, each level to the left; `bool` stands behind comparisons alone; a bracket behind
  -- `group_left` or `group_right` is always that of its labels; a sign's operand and what is in a subquery bind closer
  pub IsLawful : Written → Type 0
  IsLawful (number micros) = Unit {0}
  IsLawful (text bytes) = Unit {0}
  IsLawful (brackets e) = IsLawful e
  IsLawful (call f args) = AreLawful args
  IsLawful (aggregate op clause none) = ⊥
  IsLawful (aggregate op clause (more e es)) = IsClause clause × IsLawful e × AreLawful es
  IsLawful (unary minus e) = (level e ≤ 1) × IsLawful e
  IsLawful (binary op keys a b) =
      (level a ≤ level_of op.sign) × (level b < level_of op.sign) × ((op.with_bool && not (is_comparison op.sign)) ≡ false)
      × IfSome keys AreKeys × ((ends_with_group keys && begins_with_bracket (terminals_of b)) ≡ false) × IsLawful a × IsLawful b
  IsLawful (select s range mods) = AreSelected s.metric s.braces × IfSome range IsPositive × AreModifiers mods
  IsLawful (subquery e range resolution mods) =
      (level e ≤ 0) × IsLawful e × IsPositive range × IfSome resolution IsPositive × AreModifiers mods

  pub AreLawful : Arguments → Type 0
  AreLawful none = Unit {0}
  AreLawful (more e es) = IsLawful e × AreLawful es

-- ---- the tree that it means

abbrev pub labels_of : Option Labels → List (List ℕ)
labels_of None = []
labels_of (Some l) = l.labels

-- a metric's name is the first matcher
abbrev pub metric_matcher : Option (List ℕ) → List Matcher
metric_matcher None = []
metric_matcher (Some n) = record { label = codes "__name__"; sign = match.Equal; text = n } ∷ []

abbrev pub braces_matchers : Option Braces → List Matcher
braces_matchers None = []
braces_matchers (Some b) = b.matchers

abbrev pub at_of : AtModifier → At
at_of (time s micros) = at.Time (nat_abs (millis_of s micros))
at_of start = at.Start
at_of end = at.End

abbrev pub offset_of : Option Offset → ℤ
offset_of None = pos 0
offset_of (Some o) = cond o.minus (neg_ℤ (pos o.millis)) (pos o.millis)

abbrev pub mods_of : Modifiers → Mods
mods_of m = record { at = option_map at_of m.at; offset = offset_of m.offset }

-- no clause is `by ()`
abbrev pub grouped_of : Clause → Grouped
grouped_of absent = record { without = false; labels = [] }
grouped_of (before without l) = record { without = without; labels = l.labels }
grouped_of (behind without l) = record { without = without; labels = l.labels }

abbrev pub side_of : Option Group → Side
side_of None = side.One
side_of (Some g) = cond g.left side.Left side.Right

abbrev pub include_of : Option Group → List (List ℕ)
include_of None = []
include_of (Some g) = labels_of g.include

-- no clause is `ignoring ()`
abbrev pub matched_of : Option Keys → Matched
matched_of None = record { on = false; labels = []; side = side.One; include = [] }
matched_of (Some k) = record { on = k.on; labels = k.labels.labels; side = side_of k.group; include = include_of k.group }

abbrev pub both : {A B C : Type 0} → (A → B → C) → Option A → Option B → Option C
both f None y = None
both f (Some x) None = None
both f (Some x) (Some y) = Some (f x y)

abbrev mutual
  -- none where a called name is no function's
  pub meaning : Written → Option Tree
  meaning (number micros) = Some (tree.number micros)
  meaning (text bytes) = Some (tree.text bytes)
  meaning (brackets e) = meaning e
  meaning (call f args) = both tree.call (function_of f) (meanings args)
  meaning (aggregate op clause args) = option_map (tree.aggregate op (grouped_of clause)) (meanings args)
  meaning (unary minus e) = option_map (tree.unary minus) (meaning e)
  meaning (binary op keys a b) = both (tree.binary op (matched_of keys)) (meaning a) (meaning b)
  meaning (select s range mods) =
      Some (tree.select (metric_matcher s.metric ++ braces_matchers s.braces) range (mods_of mods))
  meaning (subquery e range resolution mods) =
      option_map (λ inner. tree.subquery inner range resolution (mods_of mods)) (meaning e)

  pub meanings : Arguments → Option Trees
  meanings none = Some tree.none
  meanings (more e es) = both tree.more (meaning e) (meanings es)

-- ---- derivations

-- these tokens write this query
pub record IsDerived (tokens : List token.Sort) (w : Written) : Type 0 where
  pub fits : FitAll (terminals_of w) tokens
  pub lawful : IsLawful w

-- these tokens derive this tree
pub record Derives (tokens : List token.Sort) (t : Tree) : Type 0 where
  pub written : Written
  pub derived : IsDerived tokens written
  pub means : meaning written ≡ Some t

-- these tokens begin those of a query
pub record Begins (tokens : List token.Sort) : Type 0 where
  pub further : List token.Sort
  pub written : Written
  pub derived : IsDerived (tokens ++ further) written

-- the tokens before this one begin a query and those with it don't; or all of them begin a query and are none, where the
-- place is their number
pub record IsUnexpected (tokens : List token.Sort) (place : ℕ) : Type 0 where
  pub within : place ≤ length tokens
  pub begins : Begins (take place tokens)
  pub unlawful : place < length tokens → Begins (take (suc place) tokens) → ⊥
  pub unfinished : (w : Written) → IsDerived tokens w → ⊥
