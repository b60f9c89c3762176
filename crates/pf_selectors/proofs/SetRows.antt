-- What is made of each label set of the rows of a window is what is made of each accepted series of the snapshot.
use Rattle.std.proofs.Common.{◌≡◌, ℕ, ℤ, Bool, true, false, cond, ◌&&◌, ◌||◌, Option, Some, None, List, [], ◌∷◌, ◌++◌, get_or, zero, suc, refl, sym, ap, ◌∙◌, is_some, nat_eq}
use Rattle.std.proofs.Math.Bool.{and-false, and-true}
use Rattle.std.proofs.lemmas.Bool.{eq-eqb}
use Rattle.std.specs.List.{filter, list_all}
use Rattle.std.specs.Cmp.{first_so, second_so}
use Rattle.std.proofs.lemmas.List.Elements.{filter_agree}
use Rattle.pf_base.specs.declared.plain.Row.{Row}
use Rattle.pf_base.specs.LabelSets.{Pairs}
use Rattle.pf_block.specs.Samples.{is_series}
use Rattle.pf_block.specs.SeriesIds.{id_of}
use Rattle.pf_block.specs.Snaps.{SnapData, IsSnap, held_by, samples_of}
use Rattle.pf_columns.proofs.GroupedCells.{has_filter, rises_filter}
use Rattle.pf_columns.proofs.Occurring.{is_full}
use Rattle.pf_columns.proofs.Rising.{ascends, rising}
use Rattle.pf_model.specs.declared.expr.Matcher.{Matcher}
use Rattle.pf_model.specs.Evaluation.{label_sets}
use Rattle.pf_model.specs.Lists.{Each, joined}
use Rattle.pf_model.specs.Log.{held_value}
use Rattle.pf_model.specs.Selection.{accepts, is_within, same_labels}
use Rattle.pf_model.proofs.KeySets.{alike, put_in, same_is, same_turned, stands_in}
use Rattle.pf_model.proofs.SelectorLabels.{label_sets_ascend}
use Rattle.pf_store.specs.Standing.{StandsFor}
use Rattle.pf_selectors.proofs.LastHeld.{inside}
use Rattle.pf_selectors.proofs.SeriesOrder.{AreInOrder, Entry, names}

-- the samples of each series are lawful
all_or : {X : Type 0} (p : X → Bool) (xs : List X) (k : ℕ) (d : X) → list_all p xs ≡ true → p d ≡ true → p (get_or xs k d) ≡ true
all_or p [] k d h e = e
all_or p (x ∷ xs) zero d h e = first_so (p x) (list_all p xs) h
all_or p (x ∷ xs) (suc k) d h e = all_or p xs k d (second_so (p x) (list_all p xs) h) e

pub lawful : (s : SnapData) (id : ℕ) → IsSnap s → is_series (samples_of s id) ≡ true
lawful s id h = all_or is_series s.samples id [] h.lawful refl

filter_twice : (p q : Row → Bool) (rows : List Row) → filter p (filter q rows) ≡ filter (λ r. q r && p r) rows
filter_twice p q [] = refl
filter_twice p q (r ∷ rs) =
    let t = filter_twice p q rs in
    elim (q r) as (λ b. filter p (cond b (r ∷ filter q rs) (filter q rs)) ≡ cond (b && p r) (r ∷ filter (λ r. q r && p r) rs) (filter (λ r. q r && p r) rs)) [
      | true ↦ ap (λ rs. cond (p r) (r ∷ rs) rs) t
      | false ↦ t
    ]

-- ---- a row of a label set in the window shows that the set is accepted, and held at a time

record IsShown (ms : List Matcher) (n : Pairs) (samples : List Row) : Type 0 where
  pub accepted : accepts ms n ≡ true
  pub time : ℕ
  pub held : is_some (held_value samples n time) ≡ true

shown_first : (ms : List Matcher) (n : Pairs) (r : Row) (rs : List Row) → same_labels r.labels n ≡ true → accepts ms r.labels ≡ true → IsShown ms n (r ∷ rs)
shown_first ms n r rs e a = record {
  accepted = ap (accepts ms) (sym (same_is r.labels n e)) ∙ a;
  time = r.time;
  held = ap is_some (λ i. cond (e i && eq-eqb r.time r.time refl i) (Some r.value) (held_value rs n r.time));
}

still_some : (b : Bool) (v : ℤ) (o : Option ℤ) → is_some o ≡ true → is_some (cond b (Some v) o) ≡ true
still_some true v o h = refl
still_some false v o h = h

shown_more : (ms : List Matcher) (n : Pairs) (r : Row) (rs : List Row) → IsShown ms n rs → IsShown ms n (r ∷ rs)
shown_more ms n r rs h = record {
  accepted = h.accepted;
  time = h.time;
  held = still_some (same_labels r.labels n && nat_eq r.time h.time) r.value (held_value rs n h.time) h.held;
}

module _ (ms : List Matcher) (from to : ℤ) where
  abbrev pub window_rows : List Row → List Row
  window_rows samples = filter (is_within from to) (filter (λ r. accepts ms r.labels) samples)

  abbrev pub of_set : List Row → Pairs → List Row
  of_set samples l = filter (λ r. same_labels r.labels l) (window_rows samples)

  abbrev shows : Pairs → Row → Bool
  shows n r = (accepts ms r.labels && is_within from to r) && same_labels r.labels n

  pub set_rows : (samples : List Row) (l : Pairs) → of_set samples l ≡ filter (shows l) samples
  set_rows samples l =
      ap (filter (λ r. same_labels r.labels l)) (filter_twice (is_within from to) (λ r. accepts ms r.labels) samples)
      ∙ filter_twice (λ r. same_labels r.labels l) (λ r. accepts ms r.labels && is_within from to r) samples

  tests_by : (l : Pairs) (r : Row) (b : Bool) → same_labels r.labels l ≡ b → accepts ms l ≡ true → ((accepts ms r.labels && is_within from to r) && b) ≡ (b && inside from to r.time)
  tests_by l r true e a = and-true (accepts ms r.labels && inside from to r.time) ∙ ap (λ x. x && inside from to r.time) (ap (accepts ms) (same_is r.labels l e) ∙ a)
  tests_by l r false e a = and-false (accepts ms r.labels && inside from to r.time)

  pub tests : (l : Pairs) (r : Row) → accepts ms l ≡ true → shows l r ≡ (same_labels r.labels l && inside from to r.time)
  tests l r a = tests_by l r (same_labels r.labels l) refl a

  -- the rows of an accepted label set
  pub counted_rows : (samples : List Row) (l : Pairs) → accepts ms l ≡ true → of_set samples l ≡ filter (λ r. same_labels r.labels l && inside from to r.time) samples
  counted_rows samples l a = set_rows samples l ∙ filter_agree (shows l) (λ r. same_labels r.labels l && inside from to r.time) (λ r. tests l r a) samples

  shown_by : (n : Pairs) (r : Row) (rs : List Row) (b : Bool) → shows n r ≡ b → (is_full (filter (shows n) rs) ≡ true → IsShown ms n rs) → is_full (cond b (r ∷ filter (shows n) rs) (filter (shows n) rs)) ≡ true → IsShown ms n (r ∷ rs)
  shown_by n r rs true e f h =
      let a = first_so (accepts ms r.labels && is_within from to r) (same_labels r.labels n) e in
      shown_first ms n r rs (second_so (accepts ms r.labels && is_within from to r) (same_labels r.labels n) e) (first_so (accepts ms r.labels) (is_within from to r) a)
  shown_by n r rs false e f h = shown_more ms n r rs (f h)

  shown : (n : Pairs) (rs : List Row) → is_full (filter (shows n) rs) ≡ true → IsShown ms n rs
  shown n [] h = cc
  shown n (r ∷ rs) h = shown_by n r rs (shows n r) refl (shown n rs) h

full_by : (r : Row) (rs : List Row) (b : Bool) → (b || is_full rs) ≡ is_full (cond b (r ∷ rs) rs)
full_by r rs true = refl
full_by r rs false = refl

has_sets : (n : Pairs) (rs : List Row) → stands_in n (label_sets rs) ≡ is_full (filter (λ r. same_labels r.labels n) rs)
has_sets n [] = refl
has_sets n (r ∷ rs) =
    put_in n r.labels (label_sets rs) ∙ (λ i. same_turned n r.labels i || has_sets n rs i) ∙ full_by r (filter (λ x. same_labels x.labels n) rs) (same_labels r.labels n)

held_found : (s : SnapData) (o : Option ℕ) (u : ℕ) → is_some (held_by s o u) ≡ true → is_some o ≡ true
held_found s None u h = cc
held_found s (Some k) u h = refl

and_of : (a b : Bool) → (b ≡ true → a ≡ true) → b ≡ (a && b)
and_of true b f = refl
and_of false true f = sym (f refl)
and_of false false f = refl

not_full : {X : Type 0} (xs : List X) → is_full xs ≡ false → xs ≡ []
not_full [] h = refl
not_full (x ∷ xs) h = cc

module _ (s : SnapData) (samples : List Row) (ms : List Matcher) (stands : StandsFor s samples) (from to : ℤ) (es : List Entry) (o : AreInOrder ms s.labels es) where
  abbrev rows_in : Pairs → List Row
  rows_in l = of_set ms from to samples l

  has_all : (n : Pairs) → is_full (rows_in n) ≡ true → stands_in n (names es) ≡ true
  has_all n f =
      let i = shown ms from to n samples (sym (ap is_full (set_rows ms from to samples n)) ∙ f) in
      let found = held_found s (id_of n s.labels) i.time (ap is_some (stands n i.time) ∙ i.held) in
      o.has n ∙ (λ j. i.accepted j && found j)

  -- the label sets of the rows are the names that have a row
  sets_are : label_sets (window_rows ms from to samples) ≡ filter (λ m. is_full (rows_in m)) (names es)
  sets_are =
      let full : Pairs → Bool = λ m. is_full (rows_in m) in
      alike (label_sets (window_rows ms from to samples)) (filter full (names es)) (label_sets_ascend (window_rows ms from to samples))
      (ascends (filter full (names es)) (rises_filter full (names es) (rising (names es) o.rising)))
      (λ n. has_sets n (window_rows ms from to samples) ∙ and_of (stands_in n (names es)) (full n) (has_all n) ∙ sym (has_filter full n (names es)))

  module _ {Y : Type 0} (g : Pairs → List Y) (none : (l : Pairs) → rows_in l ≡ [] → g l ≡ []) where
    kept_by : (l : Pairs) (ls : List Pairs) (b : Bool) → is_full (rows_in l) ≡ b → joined g (filter (λ m. is_full (rows_in m)) ls) ≡ joined g ls
        → joined g (cond b (l ∷ filter (λ m. is_full (rows_in m)) ls) (filter (λ m. is_full (rows_in m)) ls)) ≡ g l ++ joined g ls
    kept_by l ls true e r = ap (λ ys. g l ++ ys) r
    kept_by l ls false e r = r ∙ ap (λ ys. ys ++ joined g ls) (sym (none l (not_full (rows_in l) e)))

    kept : (ls : List Pairs) → joined g (filter (λ m. is_full (rows_in m)) ls) ≡ joined g ls
    kept [] = refl
    kept (l ∷ ls) = kept_by l ls (is_full (rows_in l)) refl (kept ls)

    pub by_names : joined g (label_sets (window_rows ms from to samples)) ≡ joined g (names es)
    by_names = ap (joined g) sets_are ∙ kept (names es)

-- over the entries in place of their names
pub by_entries : {Y : Type 0} (g : Pairs → List Y) (h : Entry → List Y) (P : Entry → Type 0) (es : List Entry) → Each P es → ((e : Entry) → P e → g e.0 ≡ h e) → joined g (names es) ≡ joined h es
by_entries g h P [] a f = refl
by_entries g h P (e ∷ es) a f = λ i. f e a.0 i ++ by_entries g h P es a.1 f i
