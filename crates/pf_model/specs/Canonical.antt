-- The canonical text of a query. This project's own, in PromQL's grammar.
use Rattle.std.specs.Prelude.{ℕ, ℤ, pos, negsuc, zero, suc, ◌*◌, ◌&&◌, Bool, true, false, not, cond, codes, List, [], ◌∷◌, ◌++◌, map, nat_eq, Option, Some, None}
use Rattle.std.specs.Fmt.{decimal}
use Rattle.pf_base.specs.NumberTexts.{value_text}
use Rattle.pf_model.specs.Lists.{separated}
use Rattle.pf_model.specs.declared.expr.At.{At}
use Rattle.pf_model.specs.declared.expr.At.TheVariants.{Time, Start, End}
use Rattle.pf_model.specs.declared.expr.Matcher.{Matcher}
use Rattle.pf_model.specs.declared.expr.Mods.{Mods}
use Rattle.pf_model.specs.declared.expr.Side.{Side}
use Rattle.pf_model.specs.declared.expr.Side.TheVariants as side
use Rattle.pf_model.specs.Clauses.{Grouped, Matched}
use Rattle.pf_model.specs.Grammar.{is_nil}
use Rattle.pf_model.specs.Trees.{Tree, Trees, number, text, unary, binary, call, aggregate, select, subquery, none, more}
use Rattle.pf_model.specs.Words.{function_name, aggregation_word, operator_text, match_text}

abbrev pub in_brackets : List ℕ → List ℕ
in_brackets bytes = codes "(" ++ (bytes ++ codes ")")

-- `\`, `"` and line feeds are escaped
abbrev pub string_byte : ℕ → List ℕ
string_byte b =
    cond (nat_eq b 92) (codes "\\\\") (cond (nat_eq b 34) (codes "\\\"") (cond (nat_eq b 10) (codes "\\n") (b ∷ [])))

abbrev pub string_bytes_of : List ℕ → List ℕ
string_bytes_of [] = []
string_bytes_of (b ∷ bs) = string_byte b ++ string_bytes_of bs

abbrev pub string_text : List ℕ → List ℕ
string_text bytes = codes "\"" ++ (string_bytes_of bytes ++ codes "\"")

abbrev pub matcher_text : Matcher → List ℕ
matcher_text m = m.label ++ (match_text m.sign ++ string_text m.text)

abbrev pub selector_text : List Matcher → List ℕ
selector_text ms = codes "{" ++ (separated (codes ",") (map matcher_text ms) ++ codes "}")

abbrev pub millis_text : ℕ → List ℕ
millis_text n = decimal n ++ codes "ms"

abbrev pub range_text : Option ℕ → List ℕ
range_text None = []
range_text (Some range) = codes "[" ++ (millis_text range ++ codes "]")

-- an `@` in seconds
abbrev pub at_text : Option At → List ℕ
at_text None = []
at_text (Some (Time millis)) = codes " @ " ++ value_text (pos (millis * 1000))
at_text (Some Start) = codes " @ start()"
at_text (Some End) = codes " @ end()"

-- nothing for a zero offset
abbrev pub offset_text : ℤ → List ℕ
offset_text (pos zero) = []
offset_text (pos (suc n)) = codes " offset " ++ millis_text (suc n)
offset_text (negsuc n) = codes " offset -" ++ millis_text (suc n)

abbrev pub mods_text : Mods → List ℕ
mods_text mods = at_text mods.at ++ offset_text mods.offset

abbrev pub names_text : List (List ℕ) → List ℕ
names_text labels = in_brackets (separated (codes ", ") labels)

abbrev pub bool_text : Bool → List ℕ
bool_text false = []
bool_text true = codes " bool"

abbrev pub is_one : Side → Bool
is_one side.One = true
is_one side.Left = false
is_one side.Right = false

-- `on` or `ignoring` stands where its list is not empty, where it is `on`, and where a grouping follows
abbrev pub keys_text : Matched → List ℕ
keys_text m =
    cond (is_nil m.labels && not m.on && is_one m.side) [] (cond m.on (codes " on ") (codes " ignoring ") ++ names_text m.labels)

abbrev pub group_text : Side → List (List ℕ) → List ℕ
group_text side.One include = []
group_text side.Left include = codes " group_left " ++ names_text include
group_text side.Right include = codes " group_right " ++ names_text include

abbrev pub grouping_text : Grouped → List ℕ
grouping_text g = cond g.without (codes " without ") (codes " by ") ++ names_text g.labels

abbrev pub resolution_text : Option ℕ → List ℕ
resolution_text None = []
resolution_text (Some resolution) = millis_text resolution

abbrev mutual
  pub canonical : Tree → List ℕ
  canonical (number micros) = value_text micros
  canonical (text bytes) = string_text bytes
  canonical (unary minus e) = cond minus (codes "-") (codes "+") ++ in_brackets (canonical e)
  canonical (binary op m a b) =
      in_brackets (canonical a)
      ++ (codes " "
      ++ (operator_text op.sign
      ++ (bool_text op.with_bool ++ (keys_text m ++ (group_text m.side m.include ++ (codes " " ++ in_brackets (canonical b)))))))
  canonical (call f args) = function_name f ++ in_brackets (separated (codes ", ") (canonicals args))
  canonical (aggregate op g args) =
      aggregation_word op ++ (grouping_text g ++ (codes " " ++ in_brackets (separated (codes ", ") (canonicals args))))
  canonical (select ms range mods) = selector_text ms ++ (range_text range ++ mods_text mods)
  canonical (subquery e range resolution mods) =
      in_brackets (canonical e)
      ++ (codes "[" ++ (millis_text range ++ (codes ":" ++ (resolution_text resolution ++ (codes "]" ++ mods_text mods)))))

  pub canonicals : Trees → List (List ℕ)
  canonicals none = []
  canonicals (more e es) = canonical e ∷ canonicals es
