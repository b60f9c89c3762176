-- What is kept is true for whoever uses it, once more is kept, and while logs grow.
use Rattle.std.proofs.Common.{◌≡◌, ◌∙◌, ℕ, pos, ◌/◌, ◌≤◌, inl, inr, Bool, true, false, cond, Option, Some, None, List, [], ◌∷◌, ◌++◌, length, length-append, filter, take, refl, sym, ap, subst, arith}
use Rattle.std.proofs.lemmas.List.{take-append-le}
use Rattle.std.proofs.lemmas.List.Elements.{filter-append}
use Rattle.std.specs.Prelude.{IfSome, slice_index_or}
use Rattle.pf_base.specs.GridLists.{GridData}
use Rattle.pf_extent.specs.Steps.{Extents, Known, extent_at, has_step, known_at, known_of}
use Rattle.pf_extent.specs.Uses.{is_usable}
use Rattle.pf_extent.specs.declared.extent.Asker.{Asker}
use Rattle.pf_extent.specs.declared.extent.Extent.{Extent}
use Rattle.pf_extent.specs.declared.key.Key.{Key}
use Rattle.pf_journal.specs.Frozen.{KeptCells, KeptSteps}
use Rattle.pf_model.specs.Canonical.{canonical}
use Rattle.pf_model.specs.declared.cell.Element.{Element}
use Rattle.pf_model.specs.declared.cell.StepCell.TheVariants.{Good}
use Rattle.pf_model.specs.Direct.{Step}
use Rattle.pf_model.specs.Evaluation.{eval}
use Rattle.pf_model.specs.Lists.{Each}
use Rattle.pf_model.specs.Log.{Change, Rules, floor_of, store_of}
use Rattle.pf_model.specs.Reach.{is_frozen, may_be_kept, may_be_used, reach}
use Rattle.pf_model.specs.Trees.{Tree, height}
use Rattle.pf_print.specs.OwnTexts.{HasText, HaveOwnTexts}
use Rattle.pf_results.specs.Keeping.{IsFixedStep, KeepsOthers, is_fixed}
use Rattle.pf_results.specs.Serving.{is_served, served_steps, serves, step_of}
use Rattle.pf_results.specs.Truth.{IsAsker, IsEvaluated, IsTrueList, IsTrueStep, IsValue, StayTrue}

-- ---- logs grow

grown_step : (rules : Rules) (interval : ℕ) (log more : List Change) (key : Key) (q : Tree) (t : ℕ) (k : Known) → IsTrueStep rules interval log key q t k
    → IsTrueStep rules interval (log ++ more) key q t k
grown_step rules interval log more key q t k h =
    let same : take k.pin (log ++ more) ≡ take k.pin log = take-append-le k.pin log more h.pin in
    let longer = length-append log more in
    let pin = h.pin in
    record {
      pin = omega (arith, pin, longer);
      generation = h.generation ∙ ap (λ (l : List Change). (store_of rules l).generation) (sym same);
      value = ap (λ (l : List Change). eval (store_of rules l).samples q (pos t)) same ∙ h.value;
      frozen = ap (λ (l : List Change). may_be_kept q (pos t) (floor_of rules l)) same ∙ h.frozen;
      place = h.place;
    }

pub stay_true : StayTrue
stay_true rules interval old new entries grown h key es c q w e t k l =
    let more = grown key.tenant in
    subst (λ (log : List Change). IsTrueStep rules interval log key q t k) (sym more.1)
    (grown_step rules interval (old key.tenant) more.0 key q t k (h key es c q w e t k l))

-- ---- whoever uses it

some_known : (x y : Extent) → Some x ≡ Some y → x ≡ y
some_known x y h = cc

none_extent : {x : Extent} → None ≡ Some x → ⊥
none_extent k = cc

known_by_cond : (x e : Extent) (t : ℕ) (es : List Extent) (b : Bool) → (extent_at t es ≡ Some e → known_at t es ≡ Some (known_of t e))
    → cond b (Some x) (extent_at t es) ≡ Some e → cond b (Some (known_of t x)) (known_at t es) ≡ Some (known_of t e)
known_by_cond x e t es true r k = ap (λ (z : Extent). Some (known_of t z)) (some_known x e k)
known_by_cond x e t es false r k = r k

known_by_extent : (es : List Extent) (t : ℕ) (e : Extent) → extent_at t es ≡ Some e → known_at t es ≡ Some (known_of t e)
known_by_extent [] t e h = absurd (none_extent h)
known_by_extent (x ∷ es) t e h = known_by_cond x e t es (has_step t x) (known_by_extent es t e) h

module _ (rules : Rules) (interval : ℕ) (log : List Change) (key : Key) (es : Extents) (a : Asker) (q : Tree) (w : HasText q) (text : canonical q ≡ key.text)
    (truth : IsTrueList rules interval log key es) (asker : IsAsker rules log a) where
  -- what an asker can use is true, and may be used over its log
  used_step : (t : ℕ) (e : Extent) → extent_at t es ≡ Some e → IsTrueStep rules interval log key q t (known_of t e)
  used_step t e h = truth q w text t (known_of t e) (known_by_extent es t e h)

  may_use : (t : ℕ) (e : Extent) → extent_at t es ≡ Some e → is_usable e (reach q (pos t)) a ≡ true
      → may_be_used e.pin (store_of rules (take e.pin log)).generation a.pin (store_of rules (take a.pin log)).generation
      (floor_of rules (take a.pin log)) (reach q (pos t)) ≡ true
  may_use t e h u =
      subst (λ g. may_be_used e.pin g a.pin (store_of rules (take a.pin log)).generation (floor_of rules (take a.pin log)) (reach q (pos t)) ≡ true)
      (used_step t e h).generation
      (subst (λ g. may_be_used e.pin e.generation a.pin g (floor_of rules (take a.pin log)) (reach q (pos t)) ≡ true) asker.generation
      (subst (λ (f : Option ℕ). may_be_used e.pin e.generation a.pin a.generation f (reach q (pos t)) ≡ true) asker.floor u))

module _ (kept : KeptCells) (rules : Rules) (interval : ℕ) (log : List Change) (key : Key) (es : Extents) (a : Asker) (q : Tree) (w : HasText q) (text : canonical q ≡ key.text)
    (truth : IsTrueList rules interval log key es) (asker : IsAsker rules log a) where
  value_by : (t : ℕ) (e : Extent) → extent_at t es ≡ Some e → is_usable e (reach q (pos t)) a ≡ true
      → eval (store_of rules (take a.pin log)).samples q (pos t) ≡ Good (known_of t e).cell
  value_by t e h u =
      let s = used_step rules interval log key es a q w text truth asker t e h in
      sym (kept rules log e.pin a.pin q (pos t) s.frozen (may_use rules interval log key es a q w text truth asker t e h u)) ∙ s.value

  each_value : (t : ℕ) (o : Option Extent) → extent_at t es ≡ o → (b : Bool) → serves o q a t ≡ b → Each (IsValue rules log a q) (cond b (step_of t o) [])
  each_value t o h false s = tt
  each_value t None h true s = tt
  each_value t (Some e) h true s = (value_by t e h s, tt)

  each_more : (xs ys : List Step) → Each (IsValue rules log a q) xs → Each (IsValue rules log a q) ys → Each (IsValue rules log a q) (xs ++ ys)
  each_more [] ys p r = r
  each_more (x ∷ xs) ys p r = (p.0, each_more xs ys p.1 r)

  pub values : (ts : List ℕ) → Each (IsValue rules log a q) (served_steps es q a ts)
  values [] = tt
  values (t ∷ ts) =
      each_more (cond (is_served es q a t) (step_of t (extent_at t es)) []) (served_steps es q a ts)
      (each_value t (extent_at t es) refl (is_served es q a t) refl) (values ts)

-- ---- what serves an asker is fixed for it

module _ (steps : KeptSteps) (rules : Rules) (interval : ℕ) (log : List Change) (key : Key) (es : Extents) (a : Asker) (q : Tree) (w : HasText q) (text : canonical q ≡ key.text)
    (truth : IsTrueList rules interval log key es) (asker : IsAsker rules log a) where
  fixed_by : (t : ℕ) (e : Extent) → extent_at t es ≡ Some e → is_usable e (reach q (pos t)) a ≡ true → is_fixed q a t ≡ true
  fixed_by t e h u =
      let s = used_step rules interval log key es a q w text truth asker t e h in
      subst (λ (f : Option ℕ). is_frozen q (pos t) f ≡ true) (sym asker.floor)
      (steps rules log e.pin a.pin q (pos t) s.frozen (may_use rules interval log key es a q w text truth asker t e h u))

  few_at : (t : ℕ) (o : Option Extent) → extent_at t es ≡ o → (b : Bool) → serves o q a t ≡ b → length (cond b (step_of t o) []) ≤ length (filter (is_fixed q a) (t ∷ []))
  few_at t o h false s = omega arith
  few_at t None h true s = omega arith
  few_at t (Some e) h true s = rw (fixed_by t e h s) (omega arith)

  pub few : (ts : List ℕ) → length (served_steps es q a ts) ≤ length (filter (is_fixed q a) ts)
  few [] = omega arith
  few (t ∷ ts) =
      let here = few_at t (extent_at t es) refl (is_served es q a t) refl in
      let rest = few ts in
      let all = length-append (cond (is_served es q a t) (step_of t (extent_at t es)) []) (served_steps es q a ts) in
      let both = ap length (filter-append (is_fixed q a) (t ∷ []) ts) ∙ length-append (filter (is_fixed q a) (t ∷ [])) (filter (is_fixed q a) ts) in
      omega (arith, here, rest, all, both)

-- nothing is kept
pub none_true : (rules : Rules) (interval : ℕ) (log : List Change) (key : Key) → IsTrueList rules interval log key []
none_true rules interval log key q w e t k h = absurd (none_some h) where
  none_some : {x : Known} → None ≡ Some x → ⊥
  none_some l = cc

-- ---- more is kept

module _ (own : HaveOwnTexts) (rules : Rules) (interval : ℕ) (log : List Change) (key : Key) (a : Asker) (q : Tree) (run : GridData) (cells : List (List Element))
    (w : HasText q) (low : height q ≤ 64) (text : canonical q ≡ key.text) (e : IsEvaluated rules interval log key a q run cells) where
  fixed_true : (t : ℕ) (k : Known) → IsFixedStep q a run cells t k → IsTrueStep rules interval log key q t k
  fixed_true t k f =
      let pin : k.pin ≡ a.pin = ap (λ (x : Known). x.pin) f.known in
      let generation : k.generation ≡ a.generation = ap (λ (x : Known). x.generation) f.known in
      let cell : k.cell ≡ slice_index_or cells f.place [] = ap (λ (x : Known). x.cell) f.known in
      let within = e.asker_is.pin in
      record {
        pin = omega (arith, pin, within);
        generation = generation ∙ e.asker_is.generation ∙ ap (λ n. (store_of rules (take n log)).generation) (sym pin);
        value = ap (λ n. eval (store_of rules (take n log)).samples q (pos t)) pin
            ∙ ap (λ u. eval (store_of rules (take a.pin log)).samples q (pos u)) f.time
            ∙ e.values f.place f.within
            ∙ ap (λ (c : List Element). Good c) (sym cell);
        frozen = ap (λ n. may_be_kept q (pos t) (floor_of rules (take n log))) pin
            ∙ ap (λ (o : Option ℕ). may_be_kept q (pos t) o) (sym e.asker_is.floor)
            ∙ f.fixed;
        place = ap (λ u. u / interval) f.time ∙ e.place f.place f.within;
      }

  pub kept_true : (old new : Extents) → IsTrueList rules interval log key old → KeepsOthers q a run cells old new → IsTrueList rules interval log key new
  kept_true old new h m q' w' text' t k l = elim (m t k l) [
    | inl o ↦ h q' w' text' t k o
    | inr f ↦ subst (λ (x : Tree). IsTrueStep rules interval log key x t k) (own q q' w w' low (text ∙ sym text')) (fixed_true t k f)
  ]

  pub some_true : (old : Extents) (o : Option Extents) → IsTrueList rules interval log key old → IfSome o (KeepsOthers q a run cells old)
      → IfSome o (IsTrueList rules interval log key)
  some_true old None h m = tt
  some_true old (Some new) h m = kept_true old new h m
