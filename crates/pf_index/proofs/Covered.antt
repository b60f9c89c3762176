-- A series that a matcher accepts has one of the values that it asks for, and the accepted ones of the series that have one are
-- all accepted ones.
use Rattle.std.proofs.Common.{◌≡◌, ℕ, zero, suc, ◌+◌, ◌<◌, ◌≤◌, Bool, true, false, cond, ◌&&◌, ◌||◌, List, [], ◌∷◌, ◌++◌, length, drop, append_assoc, get_or, refl, sym, ap, ◌∙◌, arith, subst}
use Rattle.std.proofs.lemmas.Bool.{or_left, or_parts, or_right}
use Rattle.std.specs.List.{All, list_any}
use Rattle.std.specs.Str.{bytes_eq}
use Rattle.std.specs.Cmp.{first_so, second_so}
use Rattle.std.proofs.lemmas.List.Elements.{All-cons, All-filter, All-nil, filter_passes}
use Rattle.std.proofs.lemmas.Slice.Eq.{bytes_eq-Decides}
use Rattle.pf_base.specs.LabelSets.{IsLabels, Pairs, is_empty, rises, value_of}
use Rattle.pf_block.specs.SeriesIds.{has_pair}
use Rattle.pf_model.specs.declared.expr.Matcher.{Matcher}
use Rattle.pf_model.specs.declared.expr.MatchSign.{MatchSign}
use Rattle.pf_model.specs.declared.expr.MatchSign.TheVariants.{Equal, NotEqual, Like, NotLike}
use Rattle.pf_model.specs.Binding.{accepted_from, accepted_of}
use Rattle.pf_model.specs.Patterns.{alternatives, is_like, is_plain_pattern}
use Rattle.pf_model.specs.Selection.{accepts, holds}
use Rattle.pf_index.specs.Listing.{accepted_in, has_one, all_from, ids_of, labels_at, listed_in, listed_values, unless_empty, values_of}
use Rattle.pf_index.specs.Sieving.{holds_of}
use Rattle.pf_index.proofs.Filters.{filter_twice}
use Rattle.pf_index.proofs.Entries.{StandFrom, stand_all, stand_first, stand_on}
use Rattle.pf_index.proofs.Valued.{value_is}

-- ---- values

-- a value that isn't empty is that of a pair
pair_by : (name v : List ℕ) (p : List ℕ × List ℕ) (ps : Pairs) (b : Bool) → is_empty v ≡ false → bytes_eq (cond b p.1 (value_of ps name)) v ≡ true
    → (bytes_eq (value_of ps name) v ≡ true → has_pair name v ps ≡ true) → ((b && bytes_eq p.1 v) || has_pair name v ps) ≡ true
pair_by name v p ps true n h f = ap (λ b. b || has_pair name v ps) h
pair_by name v p ps false n h f = f h

pair_of : (name v : List ℕ) (ps : Pairs) → is_empty v ≡ false → bytes_eq (value_of ps name) v ≡ true → has_pair name v ps ≡ true
pair_of name v [] n h = let e : is_empty [] ≡ false = ap is_empty ((bytes_eq-Decides [] v).0 h) ∙ n in cc
pair_of name v (p ∷ ps) n h = pair_by name v p ps (bytes_eq p.0 name) n h (pair_of name v ps n)

one_by : (name v : List ℕ) (vs : List (List ℕ)) (ps : Pairs) (b : Bool) → bytes_eq (value_of ps name) v ≡ b → (is_empty v || list_any is_empty vs) ≡ false
    → (b || list_any (bytes_eq (value_of ps name)) vs) ≡ true → (list_any is_empty vs ≡ false → list_any (bytes_eq (value_of ps name)) vs ≡ true → has_one name vs ps ≡ true)
    → (has_pair name v ps || has_one name vs ps) ≡ true
one_by name v vs ps true e n h f = ap (λ b. b || has_one name vs ps) (pair_of name v ps ((or_parts (is_empty v) (list_any is_empty vs) n).0) e)
one_by name v vs ps false e n h f = or_right (has_pair name v ps) (has_one name vs ps) (f ((or_parts (is_empty v) (list_any is_empty vs) n).1) h)

one_of : (name : List ℕ) (vs : List (List ℕ)) (ps : Pairs) → list_any is_empty vs ≡ false → list_any (bytes_eq (value_of ps name)) vs ≡ true → has_one name vs ps ≡ true
one_of name [] ps n h = h
one_of name (v ∷ vs) ps n h = one_by name v vs ps (bytes_eq (value_of ps name) v) refl n h (one_of name vs ps)

-- ---- one matcher

-- the values of a list that isn't empty
full_by : (vs : List (List ℕ)) (b : Bool) → list_any is_empty vs ≡ b → 0 < length (cond b [] vs) → (unless_empty vs ≡ vs) × (list_any is_empty vs ≡ false)
full_by vs true e h = absurd (omega (arith, h))
full_by vs false e h = (ap (λ b. cond b [] vs) e, e)

full : (vs : List (List ℕ)) → 0 < length (unless_empty vs) → (unless_empty vs ≡ vs) × (list_any is_empty vs ≡ false)
full vs h = full_by vs (list_any is_empty vs) refl h

-- what a plain pattern accepts is one of its alternatives
chosen : (b c d : Bool) → b ≡ true → cond b c d ≡ true → c ≡ true
chosen true c d e h = h
chosen false c d e h = cc

like_alternative : (pattern value : List ℕ) → is_plain_pattern pattern ≡ true → is_like pattern value ≡ true → list_any (bytes_eq value) (alternatives pattern) ≡ true
like_alternative pattern value p h = chosen (is_plain_pattern pattern) (list_any (bytes_eq value) (alternatives pattern)) _ p h

or_none : (b : Bool) → b ≡ true → (b || false) ≡ true
or_none true h = refl
or_none false h = h

asked_like : (pattern value : List ℕ) (b : Bool) → is_plain_pattern pattern ≡ b → 0 < length (unless_empty (cond b (alternatives pattern) [])) → is_like pattern value ≡ true
    → list_any (bytes_eq value) (cond b (alternatives pattern) []) ≡ true
asked_like pattern value true p h a = like_alternative pattern value p a
asked_like pattern value false p h a = absurd (omega (arith, h))

asked : (sign : MatchSign) (text value : List ℕ) → 0 < length (unless_empty (values_of sign text)) → holds sign value text ≡ true → list_any (bytes_eq value) (values_of sign text) ≡ true
asked Equal text value h a = or_none (bytes_eq value text) a
asked NotEqual text value h a = absurd (omega (arith, h))
asked Like pattern value h a = asked_like pattern value (is_plain_pattern pattern) refl h a
asked NotLike text value h a = absurd (omega (arith, h))

has_one_listed : (m : Matcher) (l : Pairs) → 0 < length (listed_values m) → holds m.sign (value_of l m.label) m.text ≡ true → has_one m.label (listed_values m) l ≡ true
has_one_listed m l h a =
    let f = full (values_of m.sign m.text) h in
    subst (λ vs. has_one m.label vs l ≡ true) (sym f.0) (one_of m.label (values_of m.sign m.text) l f.1 (asked m.sign m.text (value_of l m.label) h a))

-- a matcher holds of a series that has one of the values
held_by : (name v : List ℕ) (vs : List (List ℕ)) (ps : Pairs) (b : Bool) → rises ps ≡ true → has_pair name v ps ≡ b → (b || has_one name vs ps) ≡ true
    → (has_one name vs ps ≡ true → list_any (bytes_eq (value_of ps name)) vs ≡ true) → list_any (bytes_eq (value_of ps name)) (v ∷ vs) ≡ true
held_by name v vs ps true r e h f = or_left _ _ ((bytes_eq-Decides (value_of ps name) v).1 (value_is name v ps r e))
held_by name v vs ps false r e h f = or_right (bytes_eq (value_of ps name) v) _ (f h)

held_value : (name : List ℕ) (vs : List (List ℕ)) (ps : Pairs) → rises ps ≡ true → has_one name vs ps ≡ true → list_any (bytes_eq (value_of ps name)) vs ≡ true
held_value name [] ps r h = h
held_value name (v ∷ vs) ps r h = held_by name v vs ps (has_pair name v ps) r refl h (held_value name vs ps r)

held_listed : (x : List ℕ) (vs : List (List ℕ)) (b : Bool) → list_any (bytes_eq x) (cond b [] vs) ≡ true → list_any (bytes_eq x) vs ≡ true
held_listed x vs true h = cc
held_listed x vs false h = h

choice : (b c d : Bool) → b ≡ true → c ≡ true → cond b c d ≡ true
choice true c d e h = h
choice false c d e h = cc

held_like : (pattern value : List ℕ) (b : Bool) → is_plain_pattern pattern ≡ b → list_any (bytes_eq value) (cond b (alternatives pattern) []) ≡ true → is_like pattern value ≡ true
held_like pattern value true e h = choice (is_plain_pattern pattern) (list_any (bytes_eq value) (alternatives pattern)) _ e h
held_like pattern value false e h = cc

held : (sign : MatchSign) (text value : List ℕ) → list_any (bytes_eq value) (values_of sign text) ≡ true → holds sign value text ≡ true
held Equal text value h = one_of_one (bytes_eq value text) h where
  one_of_one : (b : Bool) → (b || false) ≡ true → b ≡ true
  one_of_one true h = refl
  one_of_one false h = h
held NotEqual text value h = cc
held Like pattern value h = held_like pattern value (is_plain_pattern pattern) refl h
held NotLike text value h = cc

within_from : (n first : ℕ) (ls : List Pairs) → first + length ls ≤ n → All (λ id. id < n) (all_from first ls)
within_from n first [] h = All-nil (λ id. id < n)
within_from n first (l ∷ ls) h = All-cons (λ id. id < n) first (all_from (first + 1) ls) (omega (arith, h)) (within_from n (first + 1) ls (omega (arith, h)))

pub all_within : (ls : List Pairs) → All (λ id. id < length ls) (all_from 0 ls)
all_within ls = within_from (length ls) 0 ls (omega arith)

pub listed_within : (name : List ℕ) (values : List (List ℕ)) (ls : List Pairs) → All (λ id. id < length ls) (listed_in name values ls)
listed_within name values ls = All-filter (λ id. has_one name values (labels_at ls id)) (λ id. id < length ls) (all_from 0 ls) (all_within ls)

pub listed_holds : (m : Matcher) (ls : List Pairs) → All IsLabels ls → All (λ id. holds_of m ls id ≡ true) (listed_in m.label (listed_values m) ls)
listed_holds m ls lawful k d h =
    let ids : List ℕ = listed_in m.label (listed_values m) ls in
    let id : ℕ = get_or ids k d in
    let r : IsLabels (labels_at ls id) = lawful id [] (listed_within m.label (listed_values m) ls k d h) in
    held m.sign m.text (value_of (labels_at ls id) m.label)
    (held_listed _ (values_of m.sign m.text) (list_any is_empty (values_of m.sign m.text))
    (held_value m.label (listed_values m) (labels_at ls id) r.rising (filter_passes (λ id. has_one m.label (listed_values m) (labels_at ls id)) (all_from 0 ls) k d h)))

-- one of the matchers that accept a series
holds_at : (ms : List Matcher) (i : ℕ) (d : Matcher) (l : Pairs) → i < length ms → accepts ms l ≡ true → holds (get_or ms i d).sign (value_of l (get_or ms i d).label) (get_or ms i d).text ≡ true
holds_at [] i d l h a = absurd (omega (arith, h))
holds_at (m ∷ ms) zero d l h a = first_so (holds m.sign (value_of l m.label) m.text) (accepts ms l) a
holds_at (m ∷ ms) (suc i) d l h a = holds_at ms i d l (omega (arith, h)) (second_so (holds m.sign (value_of l m.label) m.text) (accepts ms l) a)

-- each series that the matchers accept has one of the values that one of them asks for
pub accepted_has : (ms : List Matcher) (i : ℕ) (m : Matcher) (values : List (List ℕ)) → i < length ms → m ≡ get_or ms i m → values ≡ listed_values m → 0 < length values
    → (l : Pairs) → accepts ms l ≡ true → has_one m.label values l ≡ true
accepted_has ms i m values h e v n l a =
    subst (λ vs. has_one m.label vs l ≡ true) (sym v)
    (has_one_listed m l (subst (λ vs. 0 < length vs) v n)
    (subst (λ x. holds x.sign (value_of l x.label) x.text ≡ true) (sym e) (holds_at ms i m l h a)))

-- ---- the accepted ones of all series

-- a loop's step over all ids
drop_ids : (first i : ℕ) (ls : List Pairs) → i < length ls → all_from first (drop i ls) ≡ first ∷ all_from (first + 1) (drop (suc i) ls)
drop_ids first i [] h = absurd (omega (arith, h))
drop_ids first zero (l ∷ ls) h = refl
drop_ids first (suc i) (l ∷ ls) h = drop_ids first i ls (omega (arith, h))

pub ids_more : (ls : List Pairs) (i : ℕ) (done new whole : List ℕ) → i < length ls → new ≡ done ++ i ∷ [] → done ++ all_from i (drop i ls) ≡ whole → new ++ all_from (i + 1) (drop (i + 1) ls) ≡ whole
ids_more ls i done new whole h g w =
    let p : i + 1 ≡ suc i = omega arith in
    ap (λ l. l ++ all_from (i + 1) (drop (i + 1) ls)) g
    ∙ ap (λ n. (done ++ i ∷ []) ++ all_from (i + 1) (drop n ls)) p
    ∙ append_assoc done (i ∷ []) (all_from (i + 1) (drop (suc i) ls))
    ∙ ap (λ l. done ++ l) (sym (drop_ids i i ls h)) ∙ w

ids_by : (id : ℕ) (l : Pairs) (es : List (Pairs × ℕ)) (b : Bool) → cond b (id ∷ ids_of es) (ids_of es) ≡ ids_of (cond b ((l, id) ∷ es) es)
ids_by id l es true = refl
ids_by id l es false = refl

accepted_on : (ms : List Matcher) (all : List Pairs) (first : ℕ) (ls : List Pairs) → StandFrom first all ls → accepted_in ms all (all_from first ls) ≡ ids_of (accepted_from first ms ls)
accepted_on ms all first [] s = refl
accepted_on ms all first (l ∷ ls) s =
    let own : labels_at all first ≡ l = stand_first all first l ls s in
    (λ i. cond (accepts ms (own i)) (first ∷ accepted_on ms all (first + 1) ls (stand_on all first l ls s) i) (accepted_on ms all (first + 1) ls (stand_on all first l ls s) i))
    ∙ ids_by first l (accepted_from (first + 1) ms ls) (accepts ms l)

pub all_accepted : (ms : List Matcher) (ls : List Pairs) → accepted_in ms ls (all_from 0 ls) ≡ ids_of (accepted_of ms ls)
all_accepted ms ls = accepted_on ms ls 0 ls (stand_all ls)

-- the accepted ones of the series that have one of some values
implied : (a b : Bool) → (b ≡ true → a ≡ true) → b ≡ (a && b)
implied true b h = refl
implied false true h = sym (h refl)
implied false false h = refl

pub all_listed_accepted : (ms : List Matcher) (ls : List Pairs) (name : List ℕ) (values : List (List ℕ)) → ((l : Pairs) → accepts ms l ≡ true → has_one name values l ≡ true)
    → accepted_in ms ls (listed_in name values ls) ≡ ids_of (accepted_of ms ls)
all_listed_accepted ms ls name values h =
    filter_twice (λ id. has_one name values (labels_at ls id)) (λ id. accepts ms (labels_at ls id)) (λ id. accepts ms (labels_at ls id))
    (λ id. implied (has_one name values (labels_at ls id)) (accepts ms (labels_at ls id)) (h (labels_at ls id))) (all_from 0 ls)
    ∙ all_accepted ms ls
