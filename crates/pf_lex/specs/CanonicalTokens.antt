-- The tokens of a query's canonical text: this project's own.
use Rattle.std.specs.Prelude.{◌≡◌, ℕ, ℤ, pos, negsuc, zero, suc, ◌*◌, ◌≤◌, ◌&&◌, Bool, true, false, not, cond, codes, IfSome, List, [], ◌∷◌, ◌++◌, map, Option, Some, None}
use Rattle.std.specs.List.{list_all}
use Rattle.std.specs.Str.{str_eq_ignore_ascii_case}
use Rattle.pf_base.specs.Limits.{greatest_size, greatest_time}
use Rattle.pf_model.specs.declared.expr.At.{At}
use Rattle.pf_model.specs.declared.expr.At.TheVariants.{Time, Start, End}
use Rattle.pf_model.specs.declared.expr.Matcher.{Matcher}
use Rattle.pf_model.specs.declared.expr.Mods.{Mods}
use Rattle.pf_model.specs.declared.expr.Side.{Side}
use Rattle.pf_model.specs.declared.expr.Side.TheVariants as side
use Rattle.pf_model.specs.declared.functions.Sign.{Sign}
use Rattle.pf_model.specs.Canonical.{is_one}
use Rattle.pf_model.specs.Clauses.{Grouped, Matched}
use Rattle.pf_model.specs.Grammar.{Derives, has_colon, is_nil}
use Rattle.pf_model.specs.Parsing.{sorts, too_large_at}
use Rattle.pf_model.specs.Tokens.{Sort, Token, AreTokens, duration, is_word, number, sign, string, word}
use Rattle.pf_model.specs.Trees as tree
use Rattle.pf_model.specs.Trees.{Tree, Trees, none, more}
use Rattle.pf_model.specs.Words.{aggregation_word, function_name, is_set_operator, match_text, operator_text}

-- a text's tokens are of these sorts
pub record HasTokens (text : List ℕ) (sorts : List Sort) : Type 0 where
  pub tokens : List Token
  pub are : AreTokens text tokens
  pub same : map (λ (t : Token). t.sort) tokens ≡ sorts

-- ---- the sorts in order

abbrev pub in_brackets : List Sort → List Sort
in_brackets ss = sign (codes "(") ∷ (ss ++ (sign (codes ")") ∷ []))

abbrev pub behind_commas : List (List Sort) → List Sort
behind_commas [] = []
behind_commas (s ∷ ss) = sign (codes ",") ∷ (s ++ behind_commas ss)

abbrev pub separated : List (List Sort) → List Sort
separated [] = []
separated (s ∷ ss) = s ++ behind_commas ss

abbrev pub matcher_sorts : Matcher → List Sort
matcher_sorts m = word m.label ∷ sign (match_text m.sign) ∷ string m.text ∷ []

abbrev pub selector_sorts : List Matcher → List Sort
selector_sorts ms = sign (codes "{") ∷ (separated (map matcher_sorts ms) ++ (sign (codes "}") ∷ []))

abbrev pub range_sorts : Option ℕ → List Sort
range_sorts None = []
range_sorts (Some range) = sign (codes "[") ∷ duration range ∷ sign (codes "]") ∷ []

abbrev pub at_sorts : Option At → List Sort
at_sorts None = []
at_sorts (Some (Time millis)) = sign (codes "@") ∷ number (pos (millis * 1000)) ∷ []
at_sorts (Some Start) = sign (codes "@") ∷ word (codes "start") ∷ sign (codes "(") ∷ sign (codes ")") ∷ []
at_sorts (Some End) = sign (codes "@") ∷ word (codes "end") ∷ sign (codes "(") ∷ sign (codes ")") ∷ []

abbrev pub offset_sorts : ℤ → List Sort
offset_sorts (pos zero) = []
offset_sorts (pos (suc n)) = word (codes "offset") ∷ duration (suc n) ∷ []
offset_sorts (negsuc n) = word (codes "offset") ∷ sign (codes "-") ∷ duration (suc n) ∷ []

abbrev pub mods_sorts : Mods → List Sort
mods_sorts mods = at_sorts mods.at ++ offset_sorts mods.offset

abbrev pub label_sort : List ℕ → List Sort
label_sort label = word label ∷ []

abbrev pub labels_sorts : List (List ℕ) → List Sort
labels_sorts labels = in_brackets (separated (map label_sort labels))

abbrev pub bool_sorts : Bool → List Sort
bool_sorts false = []
bool_sorts true = word (codes "bool") ∷ []

abbrev pub operator_sort : Sign → Sort
operator_sort s = cond (is_set_operator s) (word (operator_text s)) (sign (operator_text s))

abbrev pub keys_sorts : Matched → List Sort
keys_sorts m =
    cond (is_nil m.labels && not m.on && is_one m.side) [] (word (cond m.on (codes "on") (codes "ignoring")) ∷ labels_sorts m.labels)

abbrev pub group_sorts : Side → List (List ℕ) → List Sort
group_sorts side.One include = []
group_sorts side.Left include = word (codes "group_left") ∷ labels_sorts include
group_sorts side.Right include = word (codes "group_right") ∷ labels_sorts include

abbrev pub grouping_sorts : Grouped → List Sort
grouping_sorts g = word (cond g.without (codes "without") (codes "by")) ∷ labels_sorts g.labels

abbrev pub resolution_sorts : Option ℕ → List Sort
resolution_sorts None = []
resolution_sorts (Some resolution) = duration resolution ∷ []

abbrev mutual
  pub sorts_of : Tree → List Sort
  sorts_of (tree.number micros) = number micros ∷ []
  sorts_of (tree.text bytes) = string bytes ∷ []
  sorts_of (tree.unary minus e) = sign (cond minus (codes "-") (codes "+")) ∷ in_brackets (sorts_of e)
  sorts_of (tree.binary op m a b) =
      in_brackets (sorts_of a)
      ++ (operator_sort op.sign ∷ (bool_sorts op.with_bool ++ (keys_sorts m ++ (group_sorts m.side m.include ++ in_brackets (sorts_of b)))))
  sorts_of (tree.call f args) = word (function_name f) ∷ in_brackets (separated (all_sorts args))
  sorts_of (tree.aggregate op g args) = word (aggregation_word op) ∷ (grouping_sorts g ++ in_brackets (separated (all_sorts args)))
  sorts_of (tree.select ms range mods) = selector_sorts ms ++ (range_sorts range ++ mods_sorts mods)
  sorts_of (tree.subquery e range resolution mods) =
      in_brackets (sorts_of e)
      ++ (sign (codes "[") ∷ duration range ∷ sign (codes ":")
      ∷ (resolution_sorts resolution ++ (sign (codes "]") ∷ mods_sorts mods)))

  pub all_sorts : Trees → List (List Sort)
  all_sorts none = []
  all_sorts (more e es) = sorts_of e ∷ all_sorts es

-- ---- the trees whose canonical texts have these tokens

-- a word that is a token of its own: `inf` is a number, and `nan` is none
abbrev pub is_plain_word : List ℕ → Bool
is_plain_word w = is_word w && (not (str_eq_ignore_ascii_case w (codes "nan")) && not (str_eq_ignore_ascii_case w (codes "inf")))

-- such a word without a colon, as a label is
abbrev pub is_label : List ℕ → Bool
is_label w = is_plain_word w && not (has_colon w)

abbrev pub AreWords : List (List ℕ) → Type 0
AreWords labels = list_all is_label labels ≡ true

abbrev pub HaveWords : List Matcher → Type 0
HaveWords ms = list_all (λ m. is_label m.label) ms ≡ true

abbrev pub IsTime : ℕ → Type 0
IsTime millis = millis ≤ greatest_time

abbrev pub IsMoment : At → Type 0
IsMoment (Time millis) = IsTime millis
IsMoment Start = Unit {0}
IsMoment End = Unit {0}

abbrev pub IsOffset : ℤ → Type 0
IsOffset (pos n) = IsTime n
IsOffset (negsuc n) = IsTime (suc n)

abbrev pub AreMods : Mods → Type 0
AreMods mods = IfSome mods.at IsMoment × IsOffset mods.offset

-- a number that is not negative, of the greatest size at most
abbrev pub IsAmount : ℤ → Type 0
IsAmount (pos n) = n ≤ greatest_size
IsAmount (negsuc n) = ⊥

abbrev mutual
  pub IsPrintable : Tree → Type 0
  IsPrintable (tree.number micros) = IsAmount micros
  IsPrintable (tree.text bytes) = Unit {0}
  IsPrintable (tree.unary minus e) = IsPrintable e
  IsPrintable (tree.binary op m a b) = AreWords m.labels × AreWords m.include × IsPrintable a × IsPrintable b
  IsPrintable (tree.call f args) = ArePrintable args
  IsPrintable (tree.aggregate op g args) = AreWords g.labels × ArePrintable args
  IsPrintable (tree.select ms range mods) = HaveWords ms × IfSome range IsTime × AreMods mods
  IsPrintable (tree.subquery e range resolution mods) = IsPrintable e × IsTime range × IfSome resolution IsTime × AreMods mods

  pub ArePrintable : Trees → Type 0
  ArePrintable none = Unit {0}
  ArePrintable (more e es) = IsPrintable e × ArePrintable es

-- the law: the canonical text is cut into these tokens, whatever the tree
abbrev pub IsCut : (Tree → List ℕ) → Type 0
IsCut canonical = (t : Tree) → IsPrintable t → HasTokens (canonical t) (sorts_of t)

-- ---- what the tokens of any text are

abbrev pub IsLawfulSort : Sort → Type 0
IsLawfulSort (word w) = is_plain_word w ≡ true
IsLawfulSort (number micros) = IsAmount micros
IsLawfulSort (duration millis) = Unit {0}
IsLawfulSort (string bytes) = Unit {0}
IsLawfulSort (sign bytes) = Unit {0}

-- a text of any length derives the tree, and its times are within the limit
pub record HasTree (text : List ℕ) (tree : Tree) : Type 0 where
  pub tokens : List Token
  pub are_tokens : AreTokens text tokens
  pub times : too_large_at false tokens ≡ None
  pub derives : Derives (sorts tokens) tree

-- the law: a tree that a text derives, of any height, can be printed
abbrev pub CanBePrinted : Type 0
CanBePrinted = (text : List ℕ) (t : Tree) → HasTree text t → IsPrintable t
