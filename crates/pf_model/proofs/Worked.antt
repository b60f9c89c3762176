-- Worked examples of queries, computed.
use Rattle.std.proofs.Common.{◌≡◌, ℕ, pos, List, [], ◌∷◌, refl, Some, None, codes, true, false}
use Rattle.std.specs.Fmt.{digits}
use Rattle.pf_model.specs.declared.expr.Function.TheVariants as called
use Rattle.pf_model.specs.declared.expr.Matcher.{Matcher}
use Rattle.pf_model.specs.declared.expr.MatchSign.{MatchSign}
use Rattle.pf_model.specs.declared.expr.MatchSign.TheVariants as match
use Rattle.pf_model.specs.declared.functions.InstantFn.TheVariants as function
use Rattle.pf_model.specs.declared.functions.RangeFn.TheVariants as ranged
use Rattle.pf_model.specs.declared.functions.Sign.TheVariants as operator
use Rattle.pf_model.specs.declared.expr.Side.TheVariants as side
use Rattle.pf_model.specs.Built.{is_evaluated}
use Rattle.pf_model.specs.ErrorTexts.{of_grammar, of_kinds, empty_selector, query_text, refused_pattern}
use Rattle.pf_match.specs.Meaning.{reading}
use Rattle.regex.proofs.OnLiterals.{regex_on_literals}
use Rattle.regex.specs.Patterns.{holds, slot_of, find_str, has_bytes_at}
use Rattle.regex_hir.specs.Find.{first_from}
use Rattle.regex_hir.specs.Looks.{holds_between}
use Rattle.regex_hir.specs.Re.{attempt, rounds}
use Rattle.regex_hir.specs.Text.{byte_before, char_at, char_before, is_boundary}
use Rattle.pf_model.specs.Queries.{bind_fault, first_empty, no_selector, selecting, selector}
use Rattle.pf_model.specs.Parsing.{bad_token}
use Rattle.pf_model.specs.Selection.{any_refused}
use Rattle.pf_model.specs.Trees.{Tree, instant, no_mods}
use Rattle.pf_model.specs.Trees as tree
use Rattle.pf_model.specs.Typing.{bool_needed}

equal : List ℕ → List ℕ → Matcher
equal label value = record { label = label; sign = match.Equal; text = value }

up_job : List Matcher
up_job = equal (codes "__name__") (codes "up") ∷ (equal (codes "job") (codes "a") ∷ [])

-- ---- queries

one : MatchSign → List ℕ → List Matcher
one sign value = record { label = codes "a"; sign = sign; text = value } ∷ []

-- `{a!="b"}`
refuses_nothing : first_empty (instant (one match.NotEqual (codes "b"))) ≡ Some 0
unfolding one
refuses_nothing = refl

-- `{a=~"b|"}`
alternatives_refuse_nothing : first_empty (instant (one match.Like (codes "b|"))) ≡ Some 0
unfolding one
alternatives_refuse_nothing = refl

-- `up{job="a"} + rate({a=""}[1m])`
second_selector_is_empty : first_empty (tree.binary (record { sign = operator.Add; with_bool = false }) (record { on = false; labels = []; side = side.One; include = [] }) (instant up_job) (tree.call (called.Range ranged.Rate) (tree.more (tree.select (one match.Equal []) (Some 60000) no_mods) tree.none))) ≡ Some 1
unfolding one up_job equal
second_selector_is_empty = refl

-- `label_replace({a=""}, "b", "c", "d", "(")`: the call is counted, and so the selector has the number 1
unclosed : Tree
unclosed = tree.call (called.Instant function.LabelReplace) (tree.more (instant (one match.Equal [])) (tree.more (tree.text (codes "b")) (tree.more (tree.text (codes "c")) (tree.more (tree.text (codes "d")) (tree.more (tree.text (codes "(")) tree.none)))))

calls_are_counted : first_empty unclosed ≡ Some 1
unfolding unclosed one
calls_are_counted = refl

-- but its pattern is no expression, which is told
call_is_refused : bind_fault [] unclosed ≡ Some (refused_pattern 0)
unfolding unclosed one regex_on_literals reading
call_is_refused = refl

-- at one node too: `{a!~"("}` accepts the empty text by its sign
pattern_comes_first : bind_fault [] (instant (one match.NotLike (codes "("))) ≡ Some (refused_pattern 0)
unfolding one regex_on_literals reading
pattern_comes_first = refl

-- nor is it a selector of deletions
unmeant_is_none : selecting [] (instant (one match.NotLike (codes "("))) ≡ no_selector
unfolding one regex_on_literals reading
unmeant_is_none = refl

-- an expression is refused where it is listed: `{a=~"b+"}`
expression_is_taken : bind_fault [] (instant (one match.Like (codes "b+"))) ≡ None
unfolding one regex_on_literals reading find_str first_from attempt rounds holds holds_between byte_before char_at char_before is_boundary has_bytes_at slot_of
expression_is_taken = refl

listed_is_refused : bind_fault (codes "b+" ∷ []) (instant (one match.Like (codes "b+"))) ≡ Some (refused_pattern 0)
unfolding one regex_on_literals reading
listed_is_refused = refl

listed_is_no_selector : selecting (codes "b+" ∷ []) (instant (one match.Like (codes "b+"))) ≡ no_selector
unfolding one regex_on_literals reading
listed_is_no_selector = refl

-- a plain pattern of a matcher is never refused
plain_is_taken : any_refused (codes "b" ∷ []) (one match.Like (codes "b")) ≡ false
unfolding one
plain_is_taken = refl

pattern_is_evaluated : is_evaluated (instant (one match.Like (codes "(b)"))) ≡ true
unfolding one
pattern_is_evaluated = refl

-- `up{job="a"}[1m]`, and `up{job="a"} offset 1s`
range_is_not_evaluated : is_evaluated (tree.select up_job (Some 60000) no_mods) ≡ false
unfolding up_job equal
range_is_not_evaluated = refl

offset_is_evaluated : is_evaluated (tree.select up_job None (record { at = None; offset = pos 1000 })) ≡ true
offset_is_evaluated = refl

instant_selector_is_one : selecting [] (instant up_job) ≡ selector up_job
unfolding up_job equal
instant_selector_is_one = refl

range_selector_is_none : selecting [] (tree.select up_job (Some 60000) no_mods) ≡ no_selector
range_selector_is_none = refl

empty_selector_is_none : selecting [] (instant (one match.NotEqual (codes "b"))) ≡ no_selector
unfolding one
empty_selector_is_none = refl

plain_pattern_is_a_selector : selecting [] (instant (one match.Like (codes "b"))) ≡ selector (one match.Like (codes "b"))
unfolding one
plain_pattern_is_a_selector = refl

texts_of_refusals : query_text (of_grammar (bad_token 3)) ≡ codes "bad token at 3"
unfolding digits
texts_of_refusals = refl

text_of_an_empty_selector : query_text (empty_selector 0) ≡ codes "selector 0 is empty"
unfolding digits
text_of_an_empty_selector = refl

text_of_kinds : query_text (of_kinds (bool_needed 12)) ≡ codes "node 12: bool needed"
unfolding digits
text_of_kinds = refl
