-- Matchers that sieve series one after another, and what is known of one of them.
use Rattle.std.proofs.Common.{◌≡◌, ℕ, zero, suc, ◌+◌, ◌<◌, Bool, true, false, cond, not, ◌&&◌, List, [], ◌∷◌, ◌++◌, length, take, replicate, get_or, eqb, nat_eq, IfSome, refl, sym, ap, ◌∙◌, subst, arith, Option, Some, None}
use Rattle.std.specs.Bool.{beq}
use Rattle.std.specs.List.{All, Contains, list_any}
use Rattle.std.specs.Option.{is_some, option_eq}
use Rattle.std.proofs.lemmas.Bool.{eqb-true, not-false}
use Rattle.std.proofs.lemmas.List.{append-nil, get_or-drop, take_more}
use Rattle.std.proofs.lemmas.List.Elements.{All-contains, All-filter, filter-append}
use Rattle.std.proofs.lemmas.List.Filters.{FiltersInPlace}
use Rattle.std.proofs.lemmas.Map.Views.{Contains-from_any}
use Rattle.pf_base.specs.LabelSets.{IsLabels, Pairs, value_of}
use Rattle.pf_block.specs.SeriesIds.{ids_with}
use Rattle.pf_model.specs.declared.expr.Matcher.{Matcher}
use Rattle.pf_model.specs.Selection.{accepts, holds, is_compared}
use Rattle.pf_index.specs.Listing.{accepted_in, labels_at}
use Rattle.pf_index.specs.Sieving.{AreKnown, asked, held_in, holds_of}
use Rattle.pf_index.proofs.Filters.{filter_twice, filter_whole}
use Rattle.pf_index.proofs.Listed.{HasPair, all_paired, within_with}
use Rattle.pf_index.proofs.Valued.{value_is}

-- what is left of some series
pub left_within : (P : ℕ → Type 0) (ms : List Matcher) (ls : List Pairs) (ids cur : List ℕ) → cur ≡ accepted_in ms ls ids → All P ids → All P cur
left_within P ms ls ids cur e a = subst (All P) (sym e) (All-filter (λ id. accepts ms (labels_at ls id)) P ids a)

pub rest_within : (P : ℕ → Type 0) (p : ℕ → Bool) (xs ys : List ℕ) (k i x : ℕ) → FiltersInPlace p xs ys k i → i < length ys → x ≡ get_or ys i x → All P xs → P x
rest_within P p xs ys k i x f h e a =
    let z : i + 0 ≡ i = omega arith in
    let same : get_or ys i x ≡ get_or xs i x =
    ap (λ n. get_or ys n x) (sym z) ∙ sym (get_or-drop i ys 0 x) ∙ ap (λ l. get_or l 0 x) f.rest ∙ get_or-drop i xs 0 x ∙ ap (λ n. get_or xs n x) z in
    subst P (sym (e ∙ same)) (a i x (omega (arith, h, f.long)))

-- ---- one matcher after another

turned : (a b c : Bool) → (a && (b && c)) ≡ ((a && b) && c)
turned true b c = refl
turned false b c = refl

accepts_push : (ms : List Matcher) (m : Matcher) (l : Pairs) → accepts (ms ++ m ∷ []) l ≡ (accepts ms l && (holds m.sign (value_of l m.label) m.text && true))
accepts_push [] m l = refl
accepts_push (n ∷ ms) m l = ap (λ b. holds n.sign (value_of l n.label) n.text && b) (accepts_push ms m l) ∙ turned (holds n.sign (value_of l n.label) n.text) (accepts ms l) (holds m.sign (value_of l m.label) m.text && true)

and_true : (b : Bool) → (b && true) ≡ b
and_true true = refl
and_true false = refl

module _ (ls : List Pairs) where
  held_after : (ms : List Matcher) (m : Matcher) (ids : List ℕ) → held_in m ls (accepted_in ms ls ids) ≡ accepted_in (ms ++ m ∷ []) ls ids
  held_after ms m ids =
      filter_twice (λ id. accepts ms (labels_at ls id)) (holds_of m ls) (λ id. accepts (ms ++ m ∷ []) (labels_at ls id))
      (λ id. accepts_push ms m (labels_at ls id) ∙ ap (λ b. accepts ms (labels_at ls id) && b) (and_true (holds_of m ls id))) ids

  -- a loop's step
  module _ (ms : List Matcher) (i : ℕ) (m : Matcher) (compares : Bool) (ids cur : List ℕ) (h : i < length ms) (e : m ≡ get_or ms i m)
      (w : cur ≡ accepted_in (asked compares (take i ms)) ls ids) where
    asked_more : asked compares (take (i + 1) ms) ≡ asked compares (take i ms) ++ cond (beq (is_compared m.sign m.text) compares) (m ∷ []) []
    asked_more =
        ap (asked compares) (take_more ms i m h ∙ ap (λ x. take i ms ++ x ∷ []) (sym e))
        ∙ filter-append (λ n. beq (is_compared n.sign n.text) compares) (take i ms) (m ∷ [])

    -- a matcher that is asked
    pub sieved_more : (new : List ℕ) → beq (is_compared m.sign m.text) compares ≡ true → new ≡ held_in m ls cur → new ≡ accepted_in (asked compares (take (i + 1) ms)) ls ids
    sieved_more new b n =
        n ∙ ap (held_in m ls) w ∙ held_after (asked compares (take i ms)) m ids
        ∙ ap (λ l. accepted_in l ls ids) (ap (λ b. asked compares (take i ms) ++ cond b (m ∷ []) []) (sym b) ∙ sym asked_more)

    -- one of the others
    pub passed_over : beq (is_compared m.sign m.text) compares ≡ false → cur ≡ accepted_in (asked compares (take (i + 1) ms)) ls ids
    passed_over b =
        w ∙ ap (λ l. accepted_in l ls ids)
        (sym (append-nil (asked compares (take i ms))) ∙ ap (λ b. asked compares (take i ms) ++ cond b (m ∷ []) []) (sym b) ∙ sym asked_more)

    -- one that holds of all of them
    pub held_already : All (λ id. holds_of m ls id ≡ true) ids → cur ≡ accepted_in (asked compares (take (i + 1) ms)) ls ids
    held_already a = by (beq (is_compared m.sign m.text) compares) refl where
      by : (b : Bool) → beq (is_compared m.sign m.text) compares ≡ b → cur ≡ accepted_in (asked compares (take (i + 1) ms)) ls ids
      by true b = sieved_more cur b (sym (filter_whole (holds_of m ls) cur (subst (All (λ id. holds_of m ls id ≡ true)) (sym w) (All-filter _ (λ id. holds_of m ls id ≡ true) ids a))))
      by false b = passed_over b

  pub none_asked : (ids : List ℕ) → ids ≡ accepted_in [] ls ids
  none_asked ids = sym (filter_whole (λ id. true) ids (λ k d h. refl))

  -- those that compare texts, and then the patterns
  second : (a b c : Bool) → (a && (b && c)) ≡ (b && (a && c))
  second true b c = refl
  second false true c = refl
  second false false c = refl

  both_by : (m : Matcher) (l : Pairs) (ts ps : List Matcher) (b : Bool) → (holds m.sign (value_of l m.label) m.text && (accepts ts l && accepts ps l))
      ≡ (accepts (cond (beq b true) (m ∷ ts) ts) l && accepts (cond (beq b false) (m ∷ ps) ps) l)
  both_by m l ts ps true = turned (holds m.sign (value_of l m.label) m.text) (accepts ts l) (accepts ps l)
  both_by m l ts ps false = second (holds m.sign (value_of l m.label) m.text) (accepts ts l) (accepts ps l)

  both_accept : (ms : List Matcher) (l : Pairs) → accepts ms l ≡ (accepts (asked true ms) l && accepts (asked false ms) l)
  both_accept [] l = refl
  both_accept (m ∷ ms) l =
      ap (λ b. holds m.sign (value_of l m.label) m.text && b) (both_accept ms l) ∙ both_by m l (asked true ms) (asked false ms) (is_compared m.sign m.text)

  pub all_asked : (ms : List Matcher) (ids : List ℕ) → accepted_in (asked false ms) ls (accepted_in (asked true ms) ls ids) ≡ accepted_in ms ls ids
  all_asked ms ids =
      filter_twice (λ id. accepts (asked true ms) (labels_at ls id)) (λ id. accepts (asked false ms) (labels_at ls id)) (λ id. accepts ms (labels_at ls id))
      (λ id. both_accept ms (labels_at ls id)) ids

pub listed_at : (listed : Option ℕ) (i : ℕ) (P : ℕ → Type 0) → not (option_eq nat_eq listed (Some i)) ≡ false → IfSome listed P → P i
listed_at None i P h f = cc
listed_at (Some j) i P h f = subst P (eqb-true j i (not-false (eqb j i) h)) f

pub listed_left : (listed : Option ℕ) (ms : List Matcher) (ls : List Pairs) (asked : List Matcher) (ids cur : List ℕ) → cur ≡ accepted_in asked ls ids
    → IfSome listed (λ i. (d : Matcher) → All (λ id. holds_of (get_or ms i d) ls id ≡ true) ids) → IfSome listed (λ i. (d : Matcher) → All (λ id. holds_of (get_or ms i d) ls id ≡ true) cur)
listed_left None ms ls asked ids cur e h = tt
listed_left (Some i) ms ls asked ids cur e h = λ d. left_within (λ id. holds_of (get_or ms i d) ls id ≡ true) asked ls ids cur e (h d)

one_of_one : (m : Matcher) (i : ℕ) → get_or (m ∷ []) i m ≡ m
one_of_one m zero = refl
one_of_one m (suc i) = refl

-- where the only matcher holds of all of them, all are accepted
pub only_listed : (listed : Option ℕ) (ms : List Matcher) (ls : List Pairs) (ids : List ℕ) → is_some listed ≡ true → length ms ≡ 1
    → IfSome listed (λ i. (d : Matcher) → All (λ id. holds_of (get_or ms i d) ls id ≡ true) ids) → ids ≡ accepted_in ms ls ids
only_listed None ms ls ids s n h = cc
only_listed (Some i) [] ls ids s n h = absurd (omega (arith, n))
only_listed (Some i) (m ∷ []) ls ids s n h =
    let all : All (λ id. holds_of m ls id ≡ true) ids = subst (λ x. All (λ id. holds_of x ls id ≡ true) ids) (one_of_one m i) (h m) in
    sym (filter_whole (λ id. accepts (m ∷ []) (labels_at ls id)) ids (λ k d b. and_true (holds_of m ls (get_or ids k d)) ∙ all k d b))
only_listed (Some i) (m ∷ k ∷ ms) ls ids s n h = absurd (omega (arith, n))

-- ---- what is known

-- what a matcher says of a value, it says of the series that have it
pub said : (m n : Matcher) (value : List ℕ) (l : Pairs) (b : Bool) → m ≡ n → value ≡ value_of l m.label → b ≡ holds n.sign value n.text → b ≡ holds m.sign (value_of l m.label) m.text
said m n value l b e v h = h ∙ ap (λ x. holds x.sign value x.text) (sym e) ∙ ap (λ x. holds m.sign x m.text) v

abbrev unknown : Option Bool
unknown = None

none_there : (n k : ℕ) → get_or (replicate n unknown) k unknown ≡ None
none_there zero k = refl
none_there (suc n) zero = refl
none_there (suc n) (suc k) = none_there n k

pub nothing_known : (m n : Matcher) (ls : List Pairs) (known : List (Option Bool)) (count : ℕ) (without : Bool) → known ≡ replicate count None → m ≡ n → without ≡ holds n.sign [] n.text → AreKnown m ls known without
nothing_known m n ls known count without r e h = record {
  series = λ k b g. let p : Some b ≡ None = sym g ∙ ap (λ l. get_or l k None) r ∙ none_there count k in cc;
  others = h ∙ ap (λ x. holds x.sign [] x.text) (sym e);
}

inside : (xs : List (Option Bool)) (k : ℕ) (b : Bool) → get_or xs k None ≡ Some b → k < length xs
inside [] k b h = cc
inside (x ∷ xs) zero b h = omega arith
inside (x ∷ xs) (suc k) b h = let l = inside xs k b h in omega (arith, l)

module _ (m : Matcher) (ls : List Pairs) (known new : List (Option Bool)) (without : Bool) (value : List ℕ) (list : List ℕ) (verdict : Bool) (lawful : All IsLabels ls)
    (is : verdict ≡ holds m.sign value m.text) (listed : list ≡ ids_with m.label value ls) (count : length new ≡ length known)
    (noted : (k : ℕ) → k < length known → get_or new k None ≡ cond (list_any (eqb k) list) (Some verdict) (get_or known k None)) (old : AreKnown m ls known without) where
  some_is : (x y : Bool) → Some x ≡ Some y → x ≡ y
  some_is x y p = cc

  noted_by : (k : ℕ) (b c : Bool) → list_any (eqb k) list ≡ c → cond c (Some verdict) (get_or known k None) ≡ Some b → holds_of m ls k ≡ b
  noted_by k b true e g =
      let there : Contains (ids_with m.label value ls) k = Contains-from_any eqb-true k (ids_with m.label value ls) (ap (list_any (eqb k)) (sym listed) ∙ e) in
      let l : IsLabels (labels_at ls k) = lawful k [] (All-contains (λ id. id < length ls) (ids_with m.label value ls) k (within_with m.label value ls) there) in
      let v = value_is m.label value (labels_at ls k) l.rising (All-contains (HasPair m.label value ls) (ids_with m.label value ls) k (all_paired m.label value ls) there) in
      ap (λ x. holds m.sign x m.text) v ∙ sym is ∙ some_is verdict b g
  noted_by k b false e g = old.series k b g

  pub known_noted : AreKnown m ls new without
  known_noted = record {
    series = λ k b g. noted_by k b (list_any (eqb k) list) refl (sym (noted k (subst (λ n. k < n) count (inside new k b g))) ∙ g);
    others = old.others;
  }
