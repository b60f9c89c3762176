-- The tokens of a canonical text are those that the grammar wants.
use Rattle.std.proofs.Common.{◌≡◌, ℕ, zero, suc, pos, negsuc, Bool, true, false, not, ◌&&◌, Option, Some, None, List, [], ◌∷◌, ◌++◌, cond, refl, subst, codes, append_assoc}
use Rattle.std.specs.Prelude.{map, option_map, ℤ}
use Rattle.std.specs.List.{list_all}
use Rattle.std.proofs.lemmas.Bool.{and_parts, not-true}
use Rattle.pf_model.specs.declared.expr.At.{At}
use Rattle.pf_model.specs.declared.expr.At.TheVariants.{Time, Start, End}
use Rattle.pf_model.specs.declared.expr.BinaryOp.{BinaryOp}
use Rattle.pf_model.specs.declared.expr.Matcher.{Matcher}
use Rattle.pf_model.specs.declared.expr.Mods.{Mods}
use Rattle.pf_model.specs.declared.expr.Side.{Side}
use Rattle.pf_model.specs.declared.expr.Side.TheVariants as side
use Rattle.pf_model.specs.declared.expr.Function.{Function}
use Rattle.pf_model.specs.declared.expr.Function.TheVariants as called
use Rattle.pf_model.specs.declared.functions.AggOp.{AggOp}
use Rattle.pf_model.specs.declared.functions.AggOp.TheVariants as aggregation
use Rattle.pf_model.specs.declared.functions.InstantFn.{InstantFn}
use Rattle.pf_model.specs.declared.functions.InstantFn.TheVariants as instant
use Rattle.pf_model.specs.declared.functions.RangeFn.{RangeFn}
use Rattle.pf_model.specs.declared.functions.RangeFn.TheVariants as ranged
use Rattle.pf_model.specs.declared.functions.Sign.{Sign}
use Rattle.pf_model.specs.declared.functions.Sign.TheVariants as operator
use Rattle.pf_model.specs.Canonical.{is_one}
use Rattle.pf_model.specs.Clauses.{Grouped, Matched}
use Rattle.pf_model.specs.Grammar as written
use Rattle.pf_model.specs.Grammar.{FitAll, Fits, Terminal, bool_terminals, commas_before, has_colon, is_nil, keys_terminals, labels_terminals, listed, matcher_terminals, modifiers_terminals, at_modifier_terminals, offset_terminals, operator_terminal, range_terminals, terminals_of, all_terminals, more_terminals, these, without_terminals}
use Rattle.pf_model.specs.Tokens.{Sort, duration, sign, word}
use Rattle.pf_model.specs.Trees as tree
use Rattle.pf_model.specs.Trees.{Tree, Trees}
use Rattle.pf_model.specs.Words.{aggregation_word, function_name, instant_name, is_keyword, range_name}
use Rattle.std.specs.Str.{str_to_ascii_lowercase}
use Rattle.pf_lex.specs.CanonicalTokens.{ArePrintable, AreWords, HaveWords, IsPrintable, all_sorts, at_sorts, behind_commas, bool_sorts, group_sorts, grouping_sorts, in_brackets, is_label, is_plain_word, keys_sorts, label_sort, labels_sorts, matcher_sorts, mods_sorts, offset_sorts, operator_sort, range_sorts, resolution_sorts, selector_sorts, separated, sorts_of}
use Rattle.pf_lex.specs.CanonicalWritten.{AreFit, all_written, group_written, keys_written, labels_written, mods_written, moment_written, offset_written, written_of}

-- ---- one list behind the other

fit_both : (xs bs : List Terminal) (ss ts : List Sort) → FitAll xs ss → FitAll bs ts → FitAll (xs ++ bs) (ss ++ ts)
fit_both [] bs [] ts h k = k
fit_both [] bs (s ∷ ss) ts h k = absurd h
fit_both (a ∷ xs) bs [] ts h k = absurd h
fit_both (a ∷ xs) bs (s ∷ ss) ts h k = (h.0, fit_both xs bs ss ts h.1 k)

fit_brackets : (xs : List Terminal) (ss : List Sort) → FitAll xs ss → FitAll (written.sign (codes "(") ∷ (xs ++ (written.sign (codes ")") ∷ []))) (in_brackets ss)
fit_brackets xs ss h = (refl, fit_both xs (written.sign (codes ")") ∷ []) ss (sign (codes ")") ∷ []) h (refl, tt))

abbrev AllFit : List (List Terminal) → List (List Sort) → Type 0
AllFit [] [] = Unit {0}
AllFit [] (s ∷ ss) = ⊥
AllFit (a ∷ xs) [] = ⊥
AllFit (a ∷ xs) (s ∷ ss) = FitAll a s × AllFit xs ss

fit_commas : (xs : List (List Terminal)) (ss : List (List Sort)) → AllFit xs ss → FitAll (commas_before xs) (behind_commas ss)
fit_commas [] [] h = tt
fit_commas [] (s ∷ ss) h = absurd h
fit_commas (a ∷ xs) [] h = absurd h
fit_commas (a ∷ xs) (s ∷ ss) h = (refl, fit_both a (commas_before xs) s (behind_commas ss) h.0 (fit_commas xs ss h.1))

fit_listed : (xs : List (List Terminal)) (ss : List (List Sort)) → AllFit xs ss → FitAll (listed xs) (separated ss)
fit_listed [] [] h = tt
fit_listed [] (s ∷ ss) h = absurd h
fit_listed (a ∷ xs) [] h = absurd h
fit_listed (a ∷ xs) (s ∷ ss) h = fit_both a (commas_before xs) s (behind_commas ss) h.0 (fit_commas xs ss h.1)

-- ---- labels and matchers

no_colon : (w : List ℕ) → is_label w ≡ true → has_colon w ≡ false
no_colon w h = not-true (has_colon w) (and_parts (is_plain_word w) (not (has_colon w)) h).1

each_label : (labels : List (List ℕ)) → AreWords labels → AllFit (map (λ n. written.label n ∷ []) labels) (map label_sort labels)
each_label [] h = tt
each_label (l ∷ ls) h = let parts = and_parts (is_label l) (list_all is_label ls) h in (((refl, no_colon l parts.0), tt), each_label ls parts.1)

fit_labels : (labels : List (List ℕ)) → AreWords labels → FitAll (labels_terminals (labels_written labels)) (labels_sorts labels)
fit_labels labels h = fit_brackets (listed (map (λ n. written.label n ∷ []) labels)) (separated (map label_sort labels)) (fit_listed _ _ (each_label labels h))

each_matcher : (ms : List Matcher) → HaveWords ms → AllFit (map matcher_terminals ms) (map matcher_sorts ms)
each_matcher [] h = tt
each_matcher (m ∷ ms) h =
    let parts = and_parts (is_label m.label) (list_all (λ (m : Matcher). is_label m.label) ms) h in
    (((refl, no_colon m.label parts.0), (refl, (refl, tt))), each_matcher ms parts.1)

-- ---- modifiers

fit_at : (at : Option At) → FitAll (these at_modifier_terminals (option_map moment_written at)) (at_sorts at)
fit_at None = tt
fit_at (Some (Time millis)) = (refl, (refl, tt))
fit_at (Some Start) = (refl, (refl, (refl, (refl, tt))))
fit_at (Some End) = (refl, (refl, (refl, (refl, tt))))

fit_offset : (z : ℤ) → FitAll (these offset_terminals (offset_written z)) (offset_sorts z)
fit_offset (pos zero) = tt
fit_offset (pos (suc n)) = (refl, (refl, tt))
fit_offset (negsuc n) = (refl, (refl, (refl, tt)))

fit_mods : (mods : Mods) → FitAll (modifiers_terminals (mods_written mods)) (mods_sorts mods)
fit_mods mods = fit_both _ _ _ _ (fit_at mods.at) (fit_offset mods.offset)

fit_range : (range : Option ℕ) → FitAll (these range_terminals range) (range_sorts range)
fit_range None = tt
fit_range (Some n) = (refl, (refl, (refl, tt)))

fit_resolution : (resolution : Option ℕ) → FitAll (these (λ r. written.duration r ∷ []) resolution) (resolution_sorts resolution)
fit_resolution None = tt
fit_resolution (Some n) = (refl, tt)

-- ---- operators

fit_operator : (op : BinaryOp) → Fits (operator_terminal op) (operator_sort op.sign)
fit_operator op = by op.sign op.with_bool
  where
    by : (s : Sign) (b : Bool) → Fits (operator_terminal (record { sign = s; with_bool = b })) (operator_sort s)
    by operator.Add b = refl
    by operator.Sub b = refl
    by operator.Mul b = refl
    by operator.Div b = refl
    by operator.Rem b = refl
    by operator.Equal b = refl
    by operator.NotEqual b = refl
    by operator.Less b = refl
    by operator.LessOrEqual b = refl
    by operator.Greater b = refl
    by operator.GreaterOrEqual b = refl
    by operator.And b = refl
    by operator.Or b = refl
    by operator.Unless b = refl

fit_bool : (b : Bool) → FitAll (bool_terminals b) (bool_sorts b)
fit_bool false = tt
fit_bool true = (refl, tt)

fit_on : (on : Bool) → Fits (written.key (cond on (codes "on") (codes "ignoring"))) (word (cond on (codes "on") (codes "ignoring")))
fit_on true = refl
fit_on false = refl

fit_group : (s : Side) (include : List (List ℕ)) → AreWords include → FitAll (these written.group_terminals (group_written s include)) (group_sorts s include)
fit_group side.One include h = tt
fit_group side.Left include h = (refl, fit_labels include h)
fit_group side.Right include h = (refl, fit_labels include h)

-- the keys and the group
fit_keys : (m : Matched) → AreWords m.labels → AreWords m.include → FitAll (these keys_terminals (keys_written m)) (keys_sorts m ++ group_sorts m.side m.include)
fit_keys m h k = by (is_nil m.labels && not m.on) m.side
  where
    full : (s : Side) → FitAll (keys_terminals (record { on = m.on; labels = labels_written m.labels; group = group_written s m.include })) ((word (cond m.on (codes "on") (codes "ignoring")) ∷ labels_sorts m.labels) ++ group_sorts s m.include)
    full s = (fit_on m.on, fit_both (labels_terminals (labels_written m.labels)) (these written.group_terminals (group_written s m.include)) (labels_sorts m.labels) (group_sorts s m.include) (fit_labels m.labels h) (fit_group s m.include k))

    by : (bare_keys : Bool) (s : Side) → FitAll (these keys_terminals (cond (bare_keys && is_one s) None (Some (record { on = m.on; labels = labels_written m.labels; group = group_written s m.include }))))
        (cond (bare_keys && is_one s) [] (word (cond m.on (codes "on") (codes "ignoring")) ∷ labels_sorts m.labels) ++ group_sorts s m.include)
    by true side.One = tt
    by true side.Left = full side.Left
    by true side.Right = full side.Right
    by false s = full s

fit_grouping : (g : Grouped) → AreWords g.labels → FitAll (without_terminals g.without (labels_written g.labels)) (grouping_sorts g)
fit_grouping g h = by g.without
  where
    by : (without : Bool) → FitAll (without_terminals without (labels_written g.labels)) (word (cond without (codes "without") (codes "by")) ∷ labels_sorts g.labels)
    by true = (refl, fit_labels g.labels h)
    by false = (refl, fit_labels g.labels h)

-- ---- names

range_free : (f : RangeFn) → is_keyword (range_name f) ≡ false
range_free ranged.Increase = refl
range_free ranged.Rate = refl
range_free ranged.Delta = refl
range_free ranged.Irate = refl
range_free ranged.Idelta = refl
range_free ranged.Changes = refl
range_free ranged.Resets = refl
range_free ranged.AvgOverTime = refl
range_free ranged.SumOverTime = refl
range_free ranged.MinOverTime = refl
range_free ranged.MaxOverTime = refl
range_free ranged.CountOverTime = refl
range_free ranged.LastOverTime = refl
range_free ranged.PresentOverTime = refl
range_free ranged.AbsentOverTime = refl

instant_free : (f : InstantFn) → is_keyword (instant_name f) ≡ false
instant_free instant.Abs = refl
instant_free instant.Ceil = refl
instant_free instant.Floor = refl
instant_free instant.Sgn = refl
instant_free instant.Round = refl
instant_free instant.Clamp = refl
instant_free instant.ClampMin = refl
instant_free instant.ClampMax = refl
instant_free instant.Absent = refl
instant_free instant.Scalar = refl
instant_free instant.Vector = refl
instant_free instant.Time = refl
instant_free instant.Timestamp = refl
instant_free instant.LabelReplace = refl
instant_free instant.LabelJoin = refl

function_free : (f : Function) → is_keyword (function_name f) ≡ false
function_free (called.Range f) = range_free f
function_free (called.Instant f) = instant_free f

small_letters : (op : AggOp) → str_to_ascii_lowercase (aggregation_word op) ≡ aggregation_word op
small_letters aggregation.Sum = refl
small_letters aggregation.Avg = refl
small_letters aggregation.Min = refl
small_letters aggregation.Max = refl
small_letters aggregation.Count = refl
small_letters aggregation.Group = refl
small_letters aggregation.Topk = refl
small_letters aggregation.Bottomk = refl
small_letters aggregation.Quantile = refl

fit_sign : (minus : Bool) → Fits (written.sign (cond minus (codes "-") (codes "+"))) (sign (cond minus (codes "-") (codes "+")))
fit_sign true = refl
fit_sign false = refl

-- ---- trees

mutual
  fit_tree : (t : Tree) → IsPrintable t → FitAll (terminals_of (written_of t)) (sorts_of t)
  fit_tree (tree.number micros) h = (refl, tt)
  fit_tree (tree.text bytes) h = (refl, tt)
  fit_tree (tree.unary minus e) h = (fit_sign minus, fit_brackets (terminals_of (written_of e)) (sorts_of e) (fit_tree e h))
  fit_tree (tree.binary op m a b) h =
      fit_both (terminals_of (written.brackets (written_of a))) (operator_terminal op ∷ (bool_terminals op.with_bool ++ (these keys_terminals (keys_written m) ++ terminals_of (written.brackets (written_of b)))))
      (in_brackets (sorts_of a)) (operator_sort op.sign ∷ (bool_sorts op.with_bool ++ (keys_sorts m ++ (group_sorts m.side m.include ++ in_brackets (sorts_of b)))))
      (fit_brackets (terminals_of (written_of a)) (sorts_of a) (fit_tree a h.2)) (
        fit_operator op,
        fit_both (bool_terminals op.with_bool) (these keys_terminals (keys_written m) ++ terminals_of (written.brackets (written_of b))) (bool_sorts op.with_bool) (keys_sorts m ++ (group_sorts m.side m.include ++ in_brackets (sorts_of b))) (fit_bool op.with_bool)
            (subst (FitAll (these keys_terminals (keys_written m) ++ terminals_of (written.brackets (written_of b)))) (append_assoc (keys_sorts m) (group_sorts m.side m.include) (in_brackets (sorts_of b)))
            (fit_both (these keys_terminals (keys_written m)) (terminals_of (written.brackets (written_of b))) (keys_sorts m ++ group_sorts m.side m.include) (in_brackets (sorts_of b)) (fit_keys m h.0 h.1)
            (fit_brackets (terminals_of (written_of b)) (sorts_of b) (fit_tree b h.3)))),
      )
  fit_tree (tree.call f args) h = ((refl, function_free f), fit_brackets (all_terminals (all_written args)) (separated (all_sorts args)) (fit_all args h))
  fit_tree (tree.aggregate op g args) h = (
    small_letters op,
    fit_both (without_terminals g.without (labels_written g.labels)) (written.sign (codes "(") ∷ (all_terminals (all_written args) ++ (written.sign (codes ")") ∷ []))) (grouping_sorts g) (in_brackets (separated (all_sorts args)))
        (fit_grouping g h.0) (fit_brackets (all_terminals (all_written args)) (separated (all_sorts args)) (fit_all args h.1)),
  )
  fit_tree (tree.select ms range mods) h =
      fit_both (written.braces_terminals (record { matchers = ms; comma = false })) (these range_terminals range ++ modifiers_terminals (mods_written mods)) (selector_sorts ms) (range_sorts range ++ mods_sorts mods)
      (refl, fit_both (listed (map matcher_terminals ms)) (written.sign (codes "}") ∷ []) (separated (map matcher_sorts ms)) (sign (codes "}") ∷ []) (fit_listed (map matcher_terminals ms) (map matcher_sorts ms) (each_matcher ms h.0)) (refl, tt))
      (fit_both (these range_terminals range) (modifiers_terminals (mods_written mods)) (range_sorts range) (mods_sorts mods) (fit_range range) (fit_mods mods))
  fit_tree (tree.subquery e range resolution mods) h =
      fit_both (terminals_of (written.brackets (written_of e))) (written.sign (codes "[") ∷ written.duration range ∷ written.sign (codes ":") ∷ (these (λ r. written.duration r ∷ []) resolution ++ (written.sign (codes "]") ∷ modifiers_terminals (mods_written mods))))
      (in_brackets (sorts_of e)) (sign (codes "[") ∷ duration range ∷ sign (codes ":") ∷ (resolution_sorts resolution ++ (sign (codes "]") ∷ mods_sorts mods)))
      (fit_brackets (terminals_of (written_of e)) (sorts_of e) (fit_tree e h.0))
      (refl, (refl, (refl, fit_both (these (λ r. written.duration r ∷ []) resolution) (written.sign (codes "]") ∷ modifiers_terminals (mods_written mods)) (resolution_sorts resolution) (sign (codes "]") ∷ mods_sorts mods) (fit_resolution resolution) (refl, fit_mods mods))))

  fit_all : (ts : Trees) → ArePrintable ts → FitAll (all_terminals (all_written ts)) (separated (all_sorts ts))
  fit_all tree.none h = tt
  fit_all (tree.more e es) h = fit_both (terminals_of (written_of e)) (more_terminals (all_written es)) (sorts_of e) (behind_commas (all_sorts es)) (fit_tree e h.0) (fit_more es h.1)

  fit_more : (ts : Trees) → ArePrintable ts → FitAll (more_terminals (all_written ts)) (behind_commas (all_sorts ts))
  fit_more tree.none h = tt
  fit_more (tree.more e es) h = (refl, fit_both (terminals_of (written_of e)) (more_terminals (all_written es)) (sorts_of e) (behind_commas (all_sorts es)) (fit_tree e h.0) (fit_more es h.1))

pub canonical_fits : AreFit
canonical_fits = fit_tree
