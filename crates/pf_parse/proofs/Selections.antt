-- Tokens of selectors, ranges and modifiers lead from a draft to a draft; so does every token that leads from a state.
use Rattle.std.proofs.Common.{◌≡◌, ◌∙◌, sym, refl, ap, subst, ℕ, ℤ, pos, int_le, Bool, true, false, not, cond, ◌&&◌, ◌||◌, List, [], ◌∷◌, ◌++◌, map, nat_eq, Option, Some, None, IfSome, codes, arith}
use Rattle.std.proofs.lemmas.Bool.{eqb-true}
use Rattle.std.proofs.lemmas.List.{append_assoc, append-nil, map-append}
use Rattle.std.proofs.lemmas.Slice.Eq.{bytes_eq-Decides}
use Rattle.std.specs.List.{list_any}
use Rattle.std.specs.Option.{is_some, is_none, option_and_then}
use Rattle.std.specs.Str.{bytes_eq}
use Rattle.pf_base.specs.NumberTexts as front
use Rattle.pf_lex.specs.declared.token.Mark.TheVariants as mark
use Rattle.pf_model.specs.declared.expr.At.TheVariants as at
use Rattle.pf_model.specs.declared.expr.Matcher.{Matcher}
use Rattle.pf_model.specs.declared.expr.MatchSign.{MatchSign}
use Rattle.pf_model.specs.declared.expr.MatchSign.TheVariants as match
use Rattle.pf_model.specs.Grammar.{Terminal, Fits, Written, terminals_of, AreModifiers, IsAtModifier, millis_of, AreSelected, AreBraces, Braces, braces_terminals, selected_terminals, Offset, offset_terminals, AtModifier, at_modifier_terminals, Modifiers, modifiers_terminals, these, IsPositive, is_named, is_nil, has_colon, matcher_terminals, comma_if, listed}
use Rattle.pf_model.specs.Grammar as grammar
use Rattle.pf_parse.specs.declared.keyword.Keyword.TheVariants as keyword
use Rattle.pf_parse.specs.Held.{Held, Read, held_target, selector, ranged, nothing_read}
use Rattle.pf_parse.specs.Lexemes.{within_limit}
use Rattle.pf_parse.specs.Reading as mode
use Rattle.pf_parse.proofs.Drafts.{Draft, Frame, Mode, Goal, Given, Stand, Chosen, selects, over, bare, offset_given, at_given, both_given, selection, operand, at_mode, image, images, text, stack_text, AreFrames, IsMode, Fronted, tops_group, goal_image, goal_text, goal_written, IsGoal, modifiers, read_of_given, chosen_matchers, IsChosen, IsChoice, stand_image, stand_text, IsStand, end_at, fronts}
use Rattle.pf_parse.proofs.Drafts as draft
use Rattle.pf_parse.proofs.ReadOf.{read_of, selected_matchers}
use Rattle.pf_parse.proofs.Rows.{ended, with_last, with_next}
use Rattle.pf_parse.proofs.Selecting.{braces_onto, read_modifiers, read_moment, read_offset}
use Rattle.pf_parse.proofs.Settling.{and_no, fronted_onto}
use Rattle.pf_parse.proofs.Toks.{Tok, sort, seen, comma}
use Rattle.pf_parse.proofs.Toks as tok
use Rattle.pf_parse.proofs.Advancing.{Advanced, Advance, respelled, moved, as_image, tested, advance_due, advance_first, advance_whole, advance_operated, advance_keyed, advance_grouped, advance_clause, advance_arguments, advance_aggregated, advance_labels_due, advance_labels, advance_labelled}

-- ---- matchers

brace_law : (ms : List Matcher) → (not (is_nil ms) && is_nil ms) ≡ false
brace_law [] = refl
brace_law (m ∷ ms) = refl

matcher_rows : (ms : List Matcher) (zs : List Terminal)
    → fronts (map matcher_terminals ms) zs ≡ listed (map matcher_terminals ms) ++ (comma_if (not (is_nil ms)) ++ zs)
matcher_rows [] zs = refl
matcher_rows (m ∷ ms) zs = ended (map matcher_terminals (m ∷ ms)) zs

are_selected : (n : Option (List ℕ)) (b : Braces) → AreBraces b → (is_some n && list_any is_named b.matchers) ≡ false → AreSelected n (Some b)
are_selected None b l h = l
are_selected (Some n) b l h = (l, h)

selected_onto : (n : Option (List ℕ)) (b : Braces) (zs : List Terminal)
    → selected_terminals (record { metric = n; braces = Some b }) ++ zs
    ≡ these (λ n. grammar.name n ∷ []) n ++ (grammar.sign (codes "{") ∷ (listed (map matcher_terminals b.matchers) ++ (comma_if b.comma ++ (grammar.sign (codes "}") ∷ zs))))
selected_onto n b zs =
    append_assoc (these (λ n. grammar.name n ∷ []) n) (braces_terminals b) zs
    ∙ ap (λ us. these (λ n. grammar.name n ∷ []) n ++ us) (braces_onto b zs)

choice_test : (a b : Bool) → (not a && not b) ≡ true → (a ≡ false) × (b ≡ false)
choice_test false false h = (refl, refl)
choice_test false true h = absurd (grind arith)
choice_test true b h = absurd (grind arith)

label_chosen : (c : Chosen) (k : List Frame) (t : Tok) (w : List ℕ) → (has_colon w ≡ false → Fits (grammar.label w) (sort t))
    → IsChosen c → AreFrames k
    → Advance (at_mode (draft.label_due c) k) t
    (mode.to_if (not (has_colon w) && not (is_some c.metric && mode.is_name w)) (mode.sign_due (is_some c.metric) (chosen_matchers c) w) (images k))
label_chosen c k t w f l a =
    tested (at_mode (draft.label_due c) k) t (mode.sign_due (is_some c.metric) (chosen_matchers c) w) (images k)
    (not (has_colon w) && not (is_some c.metric && mode.is_name w))
    (λ h. let q = choice_test (has_colon w) (is_some c.metric && mode.is_name w) h in
    moved (at_mode (draft.label_due c) k) t (draft.sign_due c w) k (grammar.label w) (f q.0) (λ zs. refl) (l, q.1) a)

advance_label_due : (c : Chosen) (k : List Frame) (t : Tok) → IsChosen c → AreFrames k
    → Advance (at_mode (draft.label_due c) k) t (mode.label_step (is_some c.metric) (chosen_matchers c) (images k) (seen t))
advance_label_due c k (tok.key j w h f) l a = label_chosen c k (tok.key j w h f) w (λ c. (refl, c)) l a
advance_label_due c k (tok.plain w h) l a = label_chosen c k (tok.plain w h) w (λ c. (refl, c)) l a
advance_label_due c k (tok.sign mark.CloseBrace) l a =
    let b : Braces = record { matchers = c.matchers; comma = not (is_nil c.matchers) } in
    moved _ _ (draft.modified (selects (record { metric = c.metric; braces = Some b }) None) bare) k (grammar.sign (codes "}")) refl
    (λ zs. ap (stack_text k) (selected_onto c.metric b zs
    ∙ ap (λ us. these (λ n. grammar.name n ∷ []) c.metric ++ (grammar.sign (codes "{") ∷ us))
    (sym (matcher_rows c.matchers (grammar.sign (codes "}") ∷ zs)))))
    ((are_selected c.metric b (brace_law c.matchers) l, tt), tt) a
advance_label_due c k _ l a = tt

advance_sign_due : (c : Chosen) (n : List ℕ) (k : List Frame) (t : Tok) → IsChosen c × IsChoice c n → AreFrames k
    → Advance (at_mode (draft.sign_due c n) k) t (mode.sign_step (is_some c.metric) (chosen_matchers c) n (images k) (seen t))
advance_sign_due c n k (tok.sign mark.Equal) l a =
    moved _ _ (draft.text_due c n match.Equal) k (grammar.sign (codes "=")) refl (λ zs. refl) l a
advance_sign_due c n k (tok.sign mark.NotEqual) l a =
    moved _ _ (draft.text_due c n match.NotEqual) k (grammar.sign (codes "!=")) refl (λ zs. refl) l a
advance_sign_due c n k (tok.sign mark.Like) l a =
    moved _ _ (draft.text_due c n match.Like) k (grammar.sign (codes "=~")) refl (λ zs. refl) l a
advance_sign_due c n k (tok.sign mark.NotLike) l a =
    moved _ _ (draft.text_due c n match.NotLike) k (grammar.sign (codes "!~")) refl (λ zs. refl) l a
advance_sign_due c n k _ l a = tt

advance_text_due : (c : Chosen) (n : List ℕ) (s : MatchSign) (k : List Frame) (t : Tok) → IsChosen c × IsChoice c n → AreFrames k
    → Advance (at_mode (draft.text_due c n s) k) t (mode.text_step (is_some c.metric) (chosen_matchers c) n s (images k) (seen t))
advance_text_due c n s k (tok.string bytes) l a =
    moved _ _ (draft.matched c (record { label = n; sign = s; text = bytes })) k (grammar.string bytes) refl (λ zs. refl) l a
advance_text_due c n s k _ l a = tt

chosen_next : (n : Option (List ℕ)) (ms : List Matcher) (m : Matcher)
    → grammar.metric_matcher n ++ (ms ++ (m ∷ [])) ≡ (grammar.metric_matcher n ++ ms) ++ (m ∷ [])
chosen_next n ms m = sym (append_assoc (grammar.metric_matcher n) ms (m ∷ []))

any_next : (w : Bool) (ms : List Matcher) (m : Matcher) → (w && list_any is_named ms) ≡ false → (w && is_named m) ≡ false
    → (w && list_any is_named (ms ++ (m ∷ []))) ≡ false
any_next false ms m h g = refl
any_next true ms m h g = any_more ms m h g
  where
    any_more : (ms : List Matcher) (m : Matcher) → list_any is_named ms ≡ false → is_named m ≡ false → list_any is_named (ms ++ (m ∷ [])) ≡ false
    any_more [] m h g = ap (λ b. b || false) g
    any_more (n ∷ ms) m h g = by_test (is_named n) h (any_more ms m)
      where
        by_test : (b : Bool) → (b || list_any is_named ms) ≡ false
            → (list_any is_named ms ≡ false → is_named m ≡ false → list_any is_named (ms ++ (m ∷ [])) ≡ false)
            → (b || list_any is_named (ms ++ (m ∷ []))) ≡ false
        by_test true h f = h
        by_test false h f = f h g

advance_matched : (c : Chosen) (m : Matcher) (k : List Frame) (t : Tok) → IsChosen c × IsChoice c m.label → AreFrames k
    → Advance (at_mode (draft.matched c m) k) t (mode.matched_step (is_some c.metric) (chosen_matchers c ++ (m ∷ [])) (images k) (seen t))
advance_matched c m k (tok.sign mark.Comma) l a =
    let d : Chosen = record { metric = c.metric; matchers = c.matchers ++ (m ∷ []) } in
    as_image _ _ (image (at_mode (draft.label_due d) k)) _
    (ap (λ xs. record { mode = mode.label_due (is_some c.metric) xs; stack = images k }) (chosen_next c.metric c.matchers m))
    (moved _ _ (draft.label_due d) k (grammar.sign (codes ",")) refl
    (λ zs. ap (λ us. stack_text k (these (λ n. grammar.name n ∷ []) c.metric ++ (grammar.sign (codes "{") ∷ us)))
    (ap (λ us. fronts us zs) (map-append matcher_terminals c.matchers (m ∷ [])) ∙ with_next (map matcher_terminals c.matchers) (matcher_terminals m) zs))
    (any_next (is_some c.metric) c.matchers m l.0 l.1) a)
advance_matched c m k (tok.sign mark.CloseBrace) l a =
    let b : Braces = record { matchers = c.matchers ++ (m ∷ []); comma = false } in
    as_image _ _ (image (at_mode (draft.modified (selects (record { metric = c.metric; braces = Some b }) None) bare) k)) _
    (ap (λ xs. record { mode = mode.modified (Some (selector xs None)) (read_of_given bare); stack = images k }) (chosen_next c.metric c.matchers m))
    (moved _ _ (draft.modified (selects (record { metric = c.metric; braces = Some b }) None) bare) k (grammar.sign (codes "}")) refl
    (λ zs. ap (stack_text k) (selected_onto c.metric b zs
    ∙ ap (λ us. these (λ n. grammar.name n ∷ []) c.metric ++ (grammar.sign (codes "{") ∷ us))
    (ap (λ us. listed us ++ (grammar.sign (codes "}") ∷ zs)) (map-append matcher_terminals c.matchers (m ∷ []))
    ∙ sym (with_last (map matcher_terminals c.matchers) (matcher_terminals m) (grammar.sign (codes "}") ∷ zs)))))
    ((are_selected c.metric b refl (any_next (is_some c.metric) c.matchers m l.0 l.1), tt), tt) a)
advance_matched c m k _ l a = tt

-- ---- ranges and subqueries

positive_back : (d : ℕ) → mode.is_positive (within_limit d) ≡ true → IsPositive d
positive_back d h = by_test (nat_eq d 0) refl
  where
    is_nought : d ≡ 0 → mode.is_positive (within_limit d) ≡ false
    is_nought e = ap (λ n. mode.is_positive (within_limit n)) e

    by_test : (b : Bool) → nat_eq d 0 ≡ b → b ≡ false
    by_test false e = refl
    by_test true e = absurd (never (sym h ∙ is_nought (eqb-true d 0 e)))
      where
        never : true ≡ false → ⊥
        never e = cc

advance_range_due : (s : Stand) (k : List Frame) (t : Tok) → IsStand s k → AreFrames k
    → Advance (at_mode (draft.range_due s) k) t (mode.range_step (stand_image s) (images k) (seen t))
advance_range_due s k (tok.duration d) l a =
    tested (at_mode (draft.range_due s) k) (tok.duration d) (mode.range (stand_image s) (within_limit d)) (images k)
    (mode.is_positive (within_limit d))
    (λ h. moved (at_mode (draft.range_due s) k) (tok.duration d) (draft.range s d) k (grammar.duration d) refl
    (λ zs. ap (stack_text k) (stand_same s d zs)) (l, positive_back d h) a)
  where
    stand_same : (s : Stand) (d : ℕ) (zs : List Terminal)
        → stand_text s (grammar.sign (codes "[") ∷ grammar.duration d ∷ zs) ≡ stand_text s (grammar.sign (codes "[") ∷ grammar.duration d ∷ zs)
    stand_same s d zs = refl
advance_range_due s k _ l a = tt

selected_fronted : (k : List Frame) (n : Option (List ℕ)) (b : Option Braces) (zs : List Terminal) → AreSelected n b
    → Fronted k (selected_terminals (record { metric = n; braces = b }) ++ zs)
selected_fronted k None None zs l = absurd l
selected_fronted k None (Some b) zs l = and_no (tops_group k)
selected_fronted k (Some n) None zs l = and_no (tops_group k)
selected_fronted k (Some n) (Some b) zs l = and_no (tops_group k)

abbrev unmodified : Modifiers
unmodified = record { offset = None; at = None; at_first = false }

advance_range : (s : Stand) (d : ℕ) (k : List Frame) (t : Tok) → IsStand s k × IsPositive d → AreFrames k
    → Advance (at_mode (draft.range s d) k) t (mode.range_end_step (stand_image s) (within_limit d) (images k) (seen t))
advance_range (selection s) d k (tok.sign mark.CloseSquare) l a =
    moved _ _ (draft.modified (selects s (Some d)) bare) k (grammar.sign (codes "]")) refl (λ zs. refl) ((l.0, l.1), tt) a
advance_range (selection s) d k (tok.sign mark.Colon) l a =
    moved _ _ (draft.resolution_due (grammar.select s None unmodified) d) k (grammar.sign (codes ":")) refl
    (λ zs. ap (λ us. stack_text k (us ++ (grammar.sign (codes "[") ∷ grammar.duration d ∷ grammar.sign (codes ":") ∷ zs)))
    (append-nil (selected_terminals s)))
    ((omega arith, (l.0, tt, tt), selected_fronted k s.metric s.braces [] l.0), l.1) a
advance_range (operand e) d k (tok.sign mark.Colon) l a =
    moved _ _ (draft.resolution_due e d) k (grammar.sign (codes ":")) refl (λ zs. refl) l a
advance_range (selection s) d k _ l a = tt
advance_range (operand e) d k _ l a = tt

advance_resolution_due : (e : Written) (d : ℕ) (k : List Frame) (t : Tok) → IsStand (operand e) k × IsPositive d → AreFrames k
    → Advance (at_mode (draft.resolution_due e d) k) t (mode.resolution_step (read_of e) (within_limit d) (images k) (seen t))
advance_resolution_due e d k (tok.duration r) l a =
    tested (at_mode (draft.resolution_due e d) k) (tok.duration r) (mode.resolution (read_of e) (within_limit d) (within_limit r)) (images k)
    (mode.is_positive (within_limit r))
    (λ h. moved (at_mode (draft.resolution_due e d) k) (tok.duration r) (draft.resolution e d r) k (grammar.duration r) refl
    (λ zs. refl) (l.0, l.1, positive_back r h) a)
advance_resolution_due e d k (tok.sign mark.CloseSquare) l a =
    moved _ _ (draft.modified (over e d None) bare) k (grammar.sign (codes "]")) refl (λ zs. refl)
    ((l.0.0, l.0.1, l.1, tt, l.0.2), tt) a
advance_resolution_due e d k _ l a = tt

advance_resolution : (e : Written) (d r : ℕ) (k : List Frame) (t : Tok) → IsStand (operand e) k × IsPositive d × IsPositive r → AreFrames k
    → Advance (at_mode (draft.resolution e d r) k) t (mode.resolution_end_step (read_of e) (within_limit d) (within_limit r) (images k) (seen t))
advance_resolution e d r k (tok.sign mark.CloseSquare) l a =
    moved _ _ (draft.modified (over e d (Some r)) bare) k (grammar.sign (codes "]")) refl (λ zs. refl)
    ((l.0.0, l.0.1, l.1, l.2, l.0.2), tt) a
advance_resolution e d r k _ l a = tt

-- ---- modifiers

pub goal_read : (g : Goal) (m : Modifiers) → read_of (goal_written g m) ≡ held_target (goal_image g) (read_modifiers m)
goal_read (selects s r) m = refl
goal_read (over e d r) m = refl

pub goal_onto : (g : Goal) (m : Modifiers) (zs : List Terminal) → terminals_of (goal_written g m) ++ zs ≡ goal_text g (modifiers_terminals m ++ zs)
goal_onto (selects s r) m zs =
    append_assoc (selected_terminals s) (these grammar.range_terminals r ++ modifiers_terminals m) zs
    ∙ ap (λ us. selected_terminals s ++ us) (append_assoc (these grammar.range_terminals r) (modifiers_terminals m) zs)
goal_onto (over e d r) m zs =
    append_assoc (terminals_of e) (grammar.sign (codes "[") ∷ grammar.duration d ∷ grammar.sign (codes ":")
    ∷ (draft.resolved r ++ (grammar.sign (codes "]") ∷ modifiers_terminals m))) zs
    ∙ ap (λ us. terminals_of e ++ (grammar.sign (codes "[") ∷ grammar.duration d ∷ grammar.sign (codes ":") ∷ us))
    (append_assoc (draft.resolved r) (grammar.sign (codes "]") ∷ modifiers_terminals m) zs)

pub goal_stands : (g : Goal) (m : Modifiers) (k : List Frame) → IsGoal g k → AreModifiers m → IsStand (operand (goal_written g m)) k
goal_stands (selects s r) m k l p = (omega arith, (l.0, l.1, p), selected_fronted k s.metric s.braces _ l.0)
goal_stands (over e d r) m k l p = (omega arith, (l.0, l.1, l.2, l.3, p), fronted_onto k e _ l.1 l.4)

modified_as_whole : (g : Goal) (w : Given) (k : List Frame) (t : Tok) → IsGoal g k × AreModifiers (modifiers w) → AreFrames k
    → Advance (at_mode (draft.modified g w) k) t (mode.whole_step (held_target (goal_image g) (read_of_given w)) (images k) (seen t))
modified_as_whole g w k t l a =
    subst (λ x. Advance (at_mode (draft.modified g w) k) t (mode.whole_step x (images k) (seen t))) (goal_read g (modifiers w))
    (respelled (at_mode (draft.modified g w) k) (at_mode (draft.whole (goal_written g (modifiers w))) k) t
    (mode.whole_step (read_of (goal_written g (modifiers w))) (images k) (seen t))
    (λ zs. ap (stack_text k) (goal_onto g (modifiers w) zs))
    (advance_whole (goal_written g (modifiers w)) k t (goal_stands g (modifiers w) k l.0 l.1) a))

base_lost : (ms : List Matcher) (x : Option ℕ) (r : Read) → mode.base_of (ranged ms x) r ≡ mode.operand (held_target (ranged ms x) r)
base_lost ms None r = refl
base_lost ms (Some d) r = refl

base_over : (e : Held) (x : Option ℕ) (r : Read)
    → mode.base_of (Rattle.pf_parse.specs.Held.over e x) r ≡ mode.operand (held_target (Rattle.pf_parse.specs.Held.over e x) r)
base_over None None r = refl
base_over None (Some d) r = refl
base_over (Some e) None r = refl
base_over (Some e) (Some d) r = refl

base_over_by : (e : Held) (x y : Option ℕ) (r : Read)
    → mode.base_of (Rattle.pf_parse.specs.Held.over_by e x y) r ≡ mode.operand (held_target (Rattle.pf_parse.specs.Held.over_by e x y) r)
base_over_by e x None r = refl
base_over_by None None (Some y) r = refl
base_over_by None (Some d) (Some y) r = refl
base_over_by (Some e) None (Some y) r = refl
base_over_by (Some e) (Some d) (Some y) r = refl

abbrev squared : Goal → Given → List Frame → Tok → mode.Base → Type 0
squared g w k t b = Advanced (at_mode (draft.modified g w) k) t (record { mode = mode.range_due b; stack = images k })

-- a square bracket behind what is no bare selector
square_behind : (g : Goal) (w : Given) (k : List Frame) → IsGoal g k × AreModifiers (modifiers w) → AreFrames k
    → squared g w k (tok.sign mark.OpenSquare) (mode.operand (held_target (goal_image g) (read_of_given w)))
square_behind g w k l a =
    as_image _ _ (image (at_mode (draft.range_due (operand (goal_written g (modifiers w)))) k)) _
    (ap (λ x. record { mode = mode.range_due (mode.operand x); stack = images k }) (goal_read g (modifiers w)))
    (moved _ _ (draft.range_due (operand (goal_written g (modifiers w)))) k (grammar.sign (codes "[")) refl
    (λ zs. ap (stack_text k) (goal_onto g (modifiers w) (grammar.sign (codes "[") ∷ zs)))
    (goal_stands g (modifiers w) k l.0 l.1) a)

modified_square : (g : Goal) (w : Given) (k : List Frame) → IsGoal g k × AreModifiers (modifiers w) → AreFrames k
    → squared g w k (tok.sign mark.OpenSquare) (mode.base_of (goal_image g) (read_of_given w))
modified_square (selects s None) bare k l a =
    moved _ _ (draft.range_due (selection s)) k (grammar.sign (codes "[")) refl (λ zs. refl) l.0.0 a
modified_square (selects s None) (offset_given o) k l a = square_behind (selects s None) (offset_given o) k l a
modified_square (selects s None) (at_given m) k l a = square_behind (selects s None) (at_given m) k l a
modified_square (selects s None) (both_given f o m) k l a = square_behind (selects s None) (both_given f o m) k l a
modified_square (selects s (Some d)) w k l a =
    subst (squared (selects s (Some d)) w k (tok.sign mark.OpenSquare))
    (sym (base_lost (selected_matchers s) (within_limit d) (read_of_given w))) (square_behind (selects s (Some d)) w k l a)
modified_square (over e d None) w k l a =
    subst (squared (over e d None) w k (tok.sign mark.OpenSquare))
    (sym (base_over (read_of e) (within_limit d) (read_of_given w))) (square_behind (over e d None) w k l a)
modified_square (over e d (Some r)) w k l a =
    subst (squared (over e d (Some r)) w k (tok.sign mark.OpenSquare))
    (sym (base_over_by (read_of e) (within_limit d) (within_limit r) (read_of_given w))) (square_behind (over e d (Some r)) w k l a)

modified_offset : (g : Goal) (w : Given) (k : List Frame) (t : Tok) → Fits (grammar.key (codes "offset")) (sort t)
    → IsGoal g k × AreModifiers (modifiers w) → AreFrames k
    → Advance (at_mode (draft.modified g w) k) t (mode.to_if (is_none (read_of_given w).offset) (mode.offset_due (goal_image g) (read_of_given w)) (images k))
modified_offset g bare k t f l a = moved _ _ (draft.offset_due g None) k (grammar.key (codes "offset")) f (λ zs. refl) (l.0, tt) a
modified_offset g (at_given m) k t f l a =
    moved _ _ (draft.offset_due g (Some m)) k (grammar.key (codes "offset")) f (λ zs. refl) (l.0, l.1) a
modified_offset g (offset_given o) k t f l a = tt
modified_offset g (both_given first o m) k t f l a = tt

modified_at : (g : Goal) (w : Given) (k : List Frame) (t : Tok) → Fits (grammar.sign (codes "@")) (sort t)
    → IsGoal g k × AreModifiers (modifiers w) → AreFrames k
    → Advance (at_mode (draft.modified g w) k) t (mode.to_if (is_none (read_of_given w).at) (mode.time_due (goal_image g) (read_of_given w)) (images k))
modified_at g bare k t f l a = moved _ _ (draft.time_due g None) k (grammar.sign (codes "@")) f (λ zs. refl) l.0 a
modified_at g (offset_given o) k t f l a =
    moved _ _ (draft.time_due g (Some o)) k (grammar.sign (codes "@")) f
    (λ zs. ap (λ us. stack_text k (goal_text g (us ++ (grammar.sign (codes "@") ∷ zs)))) (sym (append-nil (offset_terminals o)))) l.0 a
modified_at g (at_given m) k t f l a = tt
modified_at g (both_given first o m) k t f l a = tt

advance_modified : (g : Goal) (w : Given) (k : List Frame) (t : Tok) → IsGoal g k × AreModifiers (modifiers w) → AreFrames k
    → Advance (at_mode (draft.modified g w) k) t (mode.modified_step (goal_image g) (read_of_given w) (images k) (seen t))
advance_modified g w k (tok.key keyword.Offset v h f) l a = modified_offset g w k (tok.key keyword.Offset v h f) h l a
advance_modified g w k (tok.sign mark.At) l a = modified_at g w k (tok.sign mark.At) refl l a
advance_modified g w k (tok.sign mark.OpenSquare) l a = modified_square g w k l a
advance_modified g w k t l a = modified_as_whole g w k t l a

named_as_modified : (n : List ℕ) (k : List Frame) (t : Tok) → AreFrames k
    → Advance (at_mode (draft.named n) k) t (mode.modified_step (Some (selector (mode.metric n ∷ []) None)) nothing_read (images k) (seen t))
named_as_modified n k t a =
    respelled (at_mode (draft.named n) k) (at_mode (draft.modified (selects (record { metric = Some n; braces = None }) None) bare) k) t
    (mode.modified_step (Some (selector (mode.metric n ∷ []) None)) nothing_read (images k) (seen t)) (λ zs. refl)
    (advance_modified (selects (record { metric = Some n; braces = None }) None) bare k t ((tt, tt), tt) a)

advance_named : (n : List ℕ) (k : List Frame) (t : Tok) → AreFrames k
    → Advance (at_mode (draft.named n) k) t (mode.named_step n (images k) (seen t))
advance_named n k (tok.sign mark.Open) a =
    moved _ _ (draft.first_due n) k (grammar.sign (codes "(")) refl (λ zs. refl) tt a
advance_named n k (tok.sign mark.OpenBrace) a =
    moved _ _ (draft.label_due (record { metric = Some n; matchers = [] })) k (grammar.sign (codes "{")) refl (λ zs. refl) refl a
advance_named n k t a = named_as_modified n k t a

-- an offset behind an `@` or none
offset_read : (d : Draft) (t : Tok) (g : Goal) (m : Option AtModifier) (o : Offset) (k : List Frame) (c : Terminal) → Fits c (sort t)
    → ((zs : List Terminal) → stack_text k (goal_text g (these at_modifier_terminals m ++ (offset_terminals o ++ zs))) ≡ text d (c ∷ zs))
    → IsGoal g k × IfSome m IsAtModifier → AreFrames k
    → Advanced d t (record { mode = mode.modified (goal_image g) (mode.with_offset (draft.some_at m) (read_offset o)); stack = images k })
offset_read d t g None o k c f h l a =
    moved d t (draft.modified g (offset_given o)) k c f
    (λ zs. ap (λ us. stack_text k (goal_text g (us ++ zs))) (append-nil (offset_terminals o)) ∙ h zs) (l.0, tt) a
offset_read d t g (Some m) o k c f h l a =
    moved d t (draft.modified g (both_given true o m)) k c f
    (λ zs. ap (λ us. stack_text k (goal_text g us)) (append_assoc (at_modifier_terminals m) (offset_terminals o) zs) ∙ h zs) (l.0, l.1) a

advance_offset_due : (g : Goal) (m : Option AtModifier) (k : List Frame) (t : Tok) → IsGoal g k × IfSome m IsAtModifier → AreFrames k
    → Advance (at_mode (draft.offset_due g m) k) t (mode.offset_step (goal_image g) (draft.some_at m) (images k) (seen t))
advance_offset_due g m k (tok.sign mark.Minus) l a =
    moved _ _ (draft.minus_offset_due g m) k (grammar.sign (codes "-")) refl (λ zs. refl) l a
advance_offset_due g m k (tok.duration d) l a =
    offset_read _ _ g m (record { minus = false; millis = d }) k (grammar.duration d) refl (λ zs. refl) l a
advance_offset_due g m k _ l a = tt

advance_minus_offset_due : (g : Goal) (m : Option AtModifier) (k : List Frame) (t : Tok) → IsGoal g k × IfSome m IsAtModifier → AreFrames k
    → Advance (at_mode (draft.minus_offset_due g m) k) t (mode.minus_offset_step (goal_image g) (draft.some_at m) (images k) (seen t))
advance_minus_offset_due g m k (tok.duration d) l a =
    offset_read _ _ g m (record { minus = true; millis = d }) k (grammar.duration d) refl (λ zs. refl) l a
advance_minus_offset_due g m k _ l a = tt

-- an `@` behind an offset or none
moment_read : (d : Draft) (t : Tok) (g : Goal) (o : Option Offset) (m : AtModifier) (k : List Frame) (c : Terminal) → Fits c (sort t)
    → ((zs : List Terminal) → stack_text k (goal_text g (these offset_terminals o ++ (at_modifier_terminals m ++ zs))) ≡ text d (c ∷ zs))
    → IsAtModifier m → IsGoal g k → AreFrames k
    → Advanced d t (record { mode = mode.modified (goal_image g) (mode.with_at (draft.some_offset o) (read_moment m)); stack = images k })
moment_read d t g None m k c f h p l a =
    moved d t (draft.modified g (at_given m)) k c f h (l, p) a
moment_read d t g (Some o) m k c f h p l a =
    moved d t (draft.modified g (both_given false o m)) k c f
    (λ zs. ap (λ us. stack_text k (goal_text g us)) (append_assoc (offset_terminals o) (at_modifier_terminals m) zs) ∙ h zs) (l, p) a

timed_read : (d : Draft) (g : Goal) (o : Option Offset) (s : front.Sign) (n : ℤ) (k : List Frame)
    → ((zs : List Terminal) → stack_text k (goal_text g (these offset_terminals o ++ (at_modifier_terminals (grammar.time s n) ++ zs))) ≡ text d (grammar.number n ∷ zs))
    → IsGoal g k → AreFrames k
    → Advance d (tok.number n) (mode.timed (goal_image g) (draft.some_offset o) s n (images k))
timed_read d g o s n k h l a =
    tested d (tok.number n) (mode.modified (goal_image g) (mode.with_at (draft.some_offset o) (mode.time_at s n))) (images k)
    (int_le (pos 0) (millis_of s n))
    (λ p. moment_read d (tok.number n) g o (grammar.time s n) k (grammar.number n) refl h p l a)

end_read : (g : Goal) (o : Option Offset) (k : List Frame) (t : Tok) (w : List ℕ)
    → ((e : List ℕ) → w ≡ e → Fits (grammar.exactly e) (sort t)) → IsGoal g k → AreFrames k
    → Advance (at_mode (draft.time_due g o) k) t
    (option_and_then (λ b. mode.to (mode.end_open_due (goal_image g) (draft.some_offset o) b) (images k)) (mode.end_named w))
end_read g o k t w f l a = by_start (bytes_eq w (codes "start")) refl
  where
    by_end : (b : Bool) → bytes_eq w (codes "end") ≡ b
        → Advance (at_mode (draft.time_due g o) k) t
        (option_and_then (λ b. mode.to (mode.end_open_due (goal_image g) (draft.some_offset o) b) (images k)) (cond b (Some at.End) None))
    by_end true h =
        moved (at_mode (draft.time_due g o) k) t (draft.end_open_due g o false) k (grammar.exactly (codes "end"))
        (f (codes "end") ((bytes_eq-Decides w (codes "end")).0 h)) (λ zs. refl) l a
    by_end false h = tt

    by_start : (b : Bool) → bytes_eq w (codes "start") ≡ b
        → Advance (at_mode (draft.time_due g o) k) t
        (option_and_then (λ b. mode.to (mode.end_open_due (goal_image g) (draft.some_offset o) b) (images k))
        (cond b (Some at.Start) (cond (bytes_eq w (codes "end")) (Some at.End) None)))
    by_start true h =
        moved (at_mode (draft.time_due g o) k) t (draft.end_open_due g o true) k (grammar.exactly (codes "start"))
        (f (codes "start") ((bytes_eq-Decides w (codes "start")).0 h)) (λ zs. refl) l a
    by_start false h = by_end (bytes_eq w (codes "end")) refl

advance_time_due : (g : Goal) (o : Option Offset) (k : List Frame) (t : Tok) → IsGoal g k → AreFrames k
    → Advance (at_mode (draft.time_due g o) k) t (mode.time_step (goal_image g) (draft.some_offset o) (images k) (seen t))
advance_time_due g o k (tok.sign mark.Plus) l a =
    moved _ _ (draft.signed_time_due g o false) k (grammar.sign (codes "+")) refl (λ zs. refl) l a
advance_time_due g o k (tok.sign mark.Minus) l a =
    moved _ _ (draft.signed_time_due g o true) k (grammar.sign (codes "-")) refl (λ zs. refl) l a
advance_time_due g o k (tok.number n) l a = timed_read (at_mode (draft.time_due g o) k) g o front.bare n k (λ zs. refl) l a
advance_time_due g o k (tok.key j w h f) l a = end_read g o k (tok.key j w h f) w (λ e p. p) l a
advance_time_due g o k (tok.plain w h) l a = end_read g o k (tok.plain w h) w (λ e p. p) l a
advance_time_due g o k _ l a = tt

advance_signed_time_due : (g : Goal) (o : Option Offset) (s : Bool) (k : List Frame) (t : Tok) → IsGoal g k → AreFrames k
    → Advance (at_mode (draft.signed_time_due g o s) k) t (mode.signed_time_step (goal_image g) (draft.some_offset o) s (images k) (seen t))
advance_signed_time_due g o s k (tok.number n) l a =
    timed_read (at_mode (draft.signed_time_due g o s) k) g o (mode.sign_of s) n k
    (λ zs. ap (λ us. stack_text k (goal_text g (these offset_terminals o ++ (grammar.sign (codes "@") ∷ us))))
    (append_assoc (grammar.front_terminals (mode.sign_of s)) (grammar.number n ∷ []) zs)) l a
advance_signed_time_due g o s k _ l a = tt

advance_end_open_due : (g : Goal) (o : Option Offset) (b : Bool) (k : List Frame) (t : Tok) → IsGoal g k → AreFrames k
    → Advance (at_mode (draft.end_open_due g o b) k) t (mode.end_open_step (goal_image g) (draft.some_offset o) (end_at b) (images k) (seen t))
advance_end_open_due g o b k (tok.sign mark.Open) l a =
    moved _ _ (draft.end_close_due g o b) k (grammar.sign (codes "(")) refl (λ zs. refl) l a
advance_end_open_due g o b k _ l a = tt

end_closed : (g : Goal) (o : Option Offset) (b : Bool) (k : List Frame) → IsGoal g k → AreFrames k
    → Advanced (at_mode (draft.end_close_due g o b) k) (tok.sign mark.Close)
    (record { mode = mode.modified (goal_image g) (mode.with_at (draft.some_offset o) (Some (end_at b))); stack = images k })
end_closed g o true k l a = moment_read _ _ g o grammar.start k (grammar.sign (codes ")")) refl (λ zs. refl) tt l a
end_closed g o false k l a = moment_read _ _ g o grammar.end k (grammar.sign (codes ")")) refl (λ zs. refl) tt l a

advance_end_close_due : (g : Goal) (o : Option Offset) (b : Bool) (k : List Frame) (t : Tok) → IsGoal g k → AreFrames k
    → Advance (at_mode (draft.end_close_due g o b) k) t (mode.end_close_step (goal_image g) (draft.some_offset o) (end_at b) (images k) (seen t))
advance_end_close_due g o b k (tok.sign mark.Close) l a = end_closed g o b k l a
advance_end_close_due g o b k _ l a = tt

-- ---- all

pub advance : (m : Mode) (k : List Frame) (t : Tok) → IsMode m k → AreFrames k
    → Advance (at_mode m k) t (mode.step (draft.mode_image m) (images k) (seen t))
advance draft.due k t l a = advance_due k t (λ h. l) a
advance (draft.first_due n) k t l a = advance_first n k t a
advance (draft.named n) k t l a = advance_named n k t a
advance (draft.label_due c) k t l a = advance_label_due c k t l a
advance (draft.sign_due c n) k t l a = advance_sign_due c n k t l a
advance (draft.text_due c n s) k t l a = advance_text_due c n s k t l a
advance (draft.matched c m) k t l a = advance_matched c m k t l a
advance (draft.modified g w) k t l a = advance_modified g w k t l a
advance (draft.offset_due g m) k t l a = advance_offset_due g m k t l a
advance (draft.minus_offset_due g m) k t l a = advance_minus_offset_due g m k t l a
advance (draft.time_due g o) k t l a = advance_time_due g o k t l a
advance (draft.signed_time_due g o s) k t l a = advance_signed_time_due g o s k t l a
advance (draft.end_open_due g o b) k t l a = advance_end_open_due g o b k t l a
advance (draft.end_close_due g o b) k t l a = advance_end_close_due g o b k t l a
advance (draft.range_due s) k t l a = advance_range_due s k t l a
advance (draft.range s d) k t l a = advance_range s d k t l a
advance (draft.resolution_due e d) k t l a = advance_resolution_due e d k t l a
advance (draft.resolution e d r) k t l a = advance_resolution e d r k t l a
advance (draft.whole e) k t l a = advance_whole e k t l a
advance (draft.operated op b) k t l a = advance_operated op b k t l a
advance (draft.keyed op is_on ls b) k t l a = advance_keyed op is_on ls b k t l a
advance (draft.grouped op is_on ls is_left b) k t l a = advance_grouped op is_on ls is_left b k t l a
advance (draft.clause_due op) k t l a = advance_clause op k t a
advance (draft.arguments_due op c) k t l a = advance_arguments op c k t l a
advance (draft.aggregated op es e) k t l a = advance_aggregated op es e k t l a
advance (draft.labels_due p) k t l a = advance_labels_due p k t l a
advance (draft.labels p ls) k t l a = advance_labels p ls k t l a
advance (draft.labelled p ls n) k t l a = advance_labelled p ls n k t l a
