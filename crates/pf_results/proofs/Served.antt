-- What serves, one part of a run after another.
use Rattle.std.proofs.Common.{◌≡◌, ◌∙◌, ℕ, zero, suc, ◌+◌, ◌-◌, ◌*◌, ◌≤◌, ◌<◌, Bool, true, false, not, cond, List, [], ◌∷◌, ◌++◌, append_assoc, append-nil, length, sym, ap, subst, arith}
use Rattle.std.proofs.Math.Nat.{add-mul, suc-mul}
use Rattle.std.specs.Prelude.{MatchOption, Option, Some, slice_index_or}
use Rattle.pf_base.specs.GridLists.{GridData, IsGrid, times_from}
use Rattle.pf_base.specs.Grids.{points}
use Rattle.pf_columns.specs.Columns.{timed}
use Rattle.pf_extent.specs.Done.{AreWhole, steps_in}
use Rattle.pf_extent.specs.Steps.{extent_at}
use Rattle.pf_extent.specs.declared.done.DoneCells.{DoneCells}
use Rattle.pf_extent.specs.declared.extent.Asker.{Asker}
use Rattle.pf_extent.specs.declared.extent.Extent.{Extent}
use Rattle.pf_model.specs.declared.cell.Element.{Element}
use Rattle.pf_model.specs.Direct.{Step}
use Rattle.pf_model.specs.Trees.{Tree}
use Rattle.pf_results.specs.Runs.{lengths, part_of, runs_of, time_of}
use Rattle.pf_results.specs.Serving.{IsServedPart, is_served, served_steps, step_of, steps_of}
use Rattle.pf_results.specs.Woven.{AreWovenIn}
use Rattle.pf_results.proofs.LongestRuns.{none_front, run_front}
use Rattle.pf_results.proofs.Weaving.{WeavesSo, weaves_all, weaves_none, weaves_part, weaves_run}

-- ---- lists

pub steps_more : (ds : List DoneCells) (d : DoneCells) → steps_of (ds ++ d ∷ []) ≡ steps_of ds ++ timed (points d.run) d.cells
steps_more [] d = append-nil (timed (points d.run) d.cells)
steps_more (x ∷ ds) d =
    ap (λ (ss : List Step). timed (points x.run) x.cells ++ ss) (steps_more ds d)
    ∙ sym (append_assoc (timed (points x.run) x.cells) (steps_of ds) (timed (points d.run) d.cells))

pub whole_more : (ds : List DoneCells) (d : DoneCells) → AreWhole ds → length d.cells ≡ d.run.len → AreWhole (ds ++ d ∷ [])
whole_more [] d h e = (e, tt)
whole_more (x ∷ ds) d h e = (h.0, whole_more ds d h.1 e)

pub count_more : (ds : List DoneCells) (d : DoneCells) → steps_in (ds ++ d ∷ []) ≡ steps_in ds + d.run.len
count_more [] d = omega arith
count_more (x ∷ ds) d = let r = count_more ds d in omega (arith, r)

pub lengths_more : (rs : List GridData) (r : GridData) → lengths (rs ++ r ∷ []) ≡ lengths rs + r.len
lengths_more [] r = omega arith
lengths_more (x ∷ rs) r = let e = lengths_more rs r in omega (arith, e)

-- ---- times

pub time_plus : (run : GridData) (from k : ℕ) → time_of run from + k * run.step ≡ time_of run (from + k)
time_plus run from k = omega (arith, add-mul from k run.step)

pub time_first : (run : GridData) → run.start ≡ time_of run 0
time_first run = omega arith

-- ---- the steps that are served

module _ (es : List Extent) (q : Tree) (a : Asker) (step : ℕ) where
  abbrev pub found : ℕ → ℕ → List Step
  found t n = served_steps es q a (times_from t step n)

  first_is : (t : ℕ) (x : List Element) → is_served es q a t ≡ true → step_of t (extent_at t es) ≡ record { time = t; elements = x } ∷ []
      → cond (is_served es q a t) (step_of t (extent_at t es)) [] ≡ record { time = t; elements = x } ∷ []
  first_is t x f g = ap (λ b. cond b (step_of t (extent_at t es)) []) f ∙ g

  later : (t k : ℕ) → t + step + k * step ≡ t + suc k * step
  later t k = omega (arith, suc-mul k step)

  pub served_front : (c n t : ℕ) (cells : List (List Element)) → c ≤ n → length cells ≡ c
      → ((k : ℕ) → k < c → is_served es q a (t + k * step) ≡ true)
      → ((k : ℕ) → k < c → step_of (t + k * step) (extent_at (t + k * step) es) ≡ record { time = t + k * step; elements = slice_index_or cells k [] } ∷ [])
      → found t n ≡ timed (times_from t step c) cells ++ found (t + c * step) (n - c)
  served_front zero n t cells h l f g =
      let e : t ≡ t + 0 * step = omega arith in
      let m : n ≡ n - 0 = omega arith in ap (λ u. found u n) e ∙ ap (λ k. found (t + 0 * step) k) m
  served_front (suc c) zero t cells h l f g = absurd (omega (arith, h))
  served_front (suc c) (suc n) t [] h l f g = absurd (omega (arith, l))
  served_front (suc c) (suc n) t (x ∷ cells) h l f g =
      let z : t + 0 * step ≡ t = omega arith in
      let e : t + step + c * step ≡ t + suc c * step = omega (arith, suc-mul c step) in
      let m : n - c ≡ suc n - suc c = omega arith in
      let one : Step = record { time = t; elements = x } in
      let here = first_is t x (subst (λ u. is_served es q a u ≡ true) z (f 0 (omega arith)))
      (subst (λ u. step_of u (extent_at u es) ≡ record { time = u; elements = x } ∷ []) z (g 0 (omega arith))) in
      let more = served_front c n (t + step) cells (omega (arith, h)) (omega (arith, l))
      (λ k o. subst (λ u. is_served es q a u ≡ true) (sym (later t k)) (f (suc k) (omega (arith, o))))
      (λ k o. subst (λ u. step_of u (extent_at u es) ≡ record { time = u; elements = slice_index_or cells k [] } ∷ []) (sym (later t k)) (g (suc k) (omega (arith, o)))) in
      ap (λ (ss : List Step). ss ++ found (t + step) n) here
      ∙ ap (λ (ss : List Step). one ∷ ss) more
      ∙ ap (λ u. one ∷ (timed (times_from (t + step) step c) cells ++ found u (n - c))) e
      ∙ ap (λ k. one ∷ (timed (times_from (t + step) step c) cells ++ found (t + suc c * step) k)) m

  pub none_served : (c n t : ℕ) → c ≤ n → ((k : ℕ) → k < c → is_served es q a (t + k * step) ≡ false) → found t n ≡ found (t + c * step) (n - c)
  none_served zero n t h f =
      let e : t ≡ t + 0 * step = omega arith in
      let m : n ≡ n - 0 = omega arith in ap (λ u. found u n) e ∙ ap (λ k. found (t + 0 * step) k) m
  none_served (suc c) zero t h f = absurd (omega (arith, h))
  none_served (suc c) (suc n) t h f =
      let z : t ≡ t + 0 * step = omega arith in
      let e : t + step + c * step ≡ t + suc c * step = omega (arith, suc-mul c step) in
      let m : n - c ≡ suc n - suc c = omega arith in
      let more = none_served c n (t + step) (omega (arith, h)) (λ k o. ap (is_served es q a) (later t k) ∙ f (suc k) (omega (arith, o))) in
      ap (λ b. cond b (step_of t (extent_at t es)) [] ++ found (t + step) n) (ap (is_served es q a) z ∙ f 0 (omega arith))
      ∙ more
      ∙ ap (λ u. found u (n - c)) e
      ∙ ap (λ k. found (t + suc c * step) k) m

-- ---- one part more

abbrev pub missing : List Extent → Tree → Asker → ℕ → Bool
missing es q a t = not (is_served es q a t)

-- what was found so far with what is left to find is what was there with all
pub record IsFound (es : List Extent) (q : Tree) (a : Asker) (run : GridData) (old : List DoneCells) (olds : List GridData) (cached : List DoneCells) (runs : List GridData) (from : ℕ) : Type 0 where
  pub within : from ≤ run.len
  pub steps : steps_of cached ++ found es q a run.step (time_of run from) (run.len - from) ≡ steps_of old ++ served_steps es q a (points run)
  pub whole : AreWhole cached
  pub rests : runs ++ runs_of run.step (missing es q a) (times_from (time_of run from) run.step (run.len - from)) ≡ olds ++ runs_of run.step (missing es q a) (points run)
  pub all : steps_in cached + lengths runs + (run.len - from) ≡ steps_in old + lengths olds + run.len
  pub woven : WeavesSo run old olds cached runs from

module _ (es : List Extent) (q : Tree) (a : Asker) (run : GridData) (old : List DoneCells) (olds : List GridData) where
  pub found_none : AreWhole old → IsFound es q a run old olds old olds 0
  found_none h =
      let e : time_of run 0 ≡ run.start = sym (time_first run) in
      let m : run.len - 0 ≡ run.len = omega arith in
      record {
        within = omega arith;
        steps = ap (λ u. steps_of old ++ found es q a run.step u (run.len - 0)) e ∙ ap (λ k. steps_of old ++ found es q a run.step run.start k) m;
        whole = h;
        rests = ap (λ u. olds ++ runs_of run.step (missing es q a) (times_from u run.step (run.len - 0))) e
            ∙ ap (λ k. olds ++ runs_of run.step (missing es q a) (times_from run.start run.step k)) m;
        all = omega arith;
        woven = weaves_none run old olds;
      }

  pub found_part : (cached : List DoneCells) (runs : List GridData) (from : ℕ) (d : DoneCells) → IsFound es q a run old olds cached runs from
      → IsGrid run → 1 ≤ run.step → IsServedPart es q a run from d → IsFound es q a run old olds (cached ++ d ∷ []) runs (from + d.run.len)
  found_part cached runs from d f g s p =
      let c = d.run.len in
      let t = time_of run from in
      let n = run.len - from in
      let w = p.within in
      let h : c ≤ n = omega (arith, w) in
      let e : t + c * run.step ≡ time_of run (from + c) = time_plus run from c in
      let m : n - c ≡ run.len - (from + c) = omega arith in
      let at = λ (k : ℕ). time_plus run from k in
      let ts : timed (points d.run) d.cells ≡ timed (times_from t run.step c) d.cells = ap (λ (r : GridData). timed (points r) d.cells) p.run_is in
      let front = served_front es q a run.step c n t d.cells h p.whole
      (λ k o. subst (λ u. is_served es q a u ≡ true) (sym (at k)) (p.served k o))
      (λ k o. subst (λ u. step_of u (extent_at u es) ≡ record { time = u; elements = slice_index_or d.cells k [] } ∷ []) (sym (at k)) (p.cells k o)) in
      let off = none_front run.step (missing es q a) c n t h (λ k o. ap not (subst (λ u. is_served es q a u ≡ true) (sym (at k)) (p.served k o))) in
      let all = f.all in
      let more = count_more cached d in
      record {
        within = w;
        steps =
            ap (λ (ss : List Step). ss ++ found es q a run.step (time_of run (from + c)) (run.len - (from + c))) (steps_more cached d)
            ∙ append_assoc (steps_of cached) (timed (points d.run) d.cells) (found es q a run.step (time_of run (from + c)) (run.len - (from + c)))
            ∙ ap (λ (ss : List Step). steps_of cached ++ ss)
            (ap (λ (ss : List Step). ss ++ found es q a run.step (time_of run (from + c)) (run.len - (from + c))) ts
            ∙ ap (λ u. timed (times_from t run.step c) d.cells ++ found es q a run.step u (run.len - (from + c))) (sym e)
            ∙ ap (λ k. timed (times_from t run.step c) d.cells ++ found es q a run.step (t + c * run.step) k) (sym m)
            ∙ sym front)
            ∙ f.steps;
        whole = whole_more cached d f.whole p.whole;
        rests =
            ap (λ (rs : List GridData). runs ++ rs)
            (ap (λ u. runs_of run.step (missing es q a) (times_from u run.step (run.len - (from + c)))) (sym e)
            ∙ ap (λ k. runs_of run.step (missing es q a) (times_from (t + c * run.step) run.step k)) (sym m)
            ∙ sym off)
            ∙ f.rests;
        all = omega (arith, all, more, w);
        woven = weaves_part run old olds g s es q a cached runs from d f.woven p;
      }

  pub found_run : (cached : List DoneCells) (runs : List GridData) (from c : ℕ) (r : GridData) → IsFound es q a run old olds cached runs from → IsGrid run
      → 1 ≤ run.step → 1 ≤ c → from + c ≤ run.len → r ≡ part_of run from c
      → ((k : ℕ) → from ≤ k → k < from + c → is_served es q a (time_of run k) ≡ false)
      → (from + c < run.len → is_served es q a (time_of run (from + c)) ≡ true)
      → IsFound es q a run old olds cached (runs ++ r ∷ []) (from + c)
  found_run cached runs from zero r f g s o w is off on = absurd (omega (arith, o))
  found_run cached runs from (suc b) r f g s o w is off on =
      let c = suc b in
      let t = time_of run from in
      let n = run.len - from in
      let h : c ≤ n = omega (arith, w) in
      let e : t + c * run.step ≡ time_of run (from + c) = time_plus run from c in
      let m : n - c ≡ run.len - (from + c) = omega arith in
      let at = λ (k : ℕ). time_plus run from k in
      let none = none_served es q a run.step c n t h
      (λ k l. subst (λ u. is_served es q a u ≡ false) (sym (at k)) (off (from + k) (omega arith) (omega (arith, l)))) in
      let front = run_front run.step (missing es q a) b n t s h
      (λ k l. ap not (subst (λ u. is_served es q a u ≡ false) (sym (at k)) (off (from + k) (omega arith) (omega (arith, l)))))
      (λ l. ap not (subst (λ u. is_served es q a u ≡ true) (sym (at c)) (on (omega (arith, l))))) in
      let all = f.all in
      let more = lengths_more runs r in
      let len : r.len ≡ c = ap (λ (x : GridData). x.len) is in
      record {
        within = w;
        steps =
            ap (λ (ss : List Step). steps_of cached ++ ss)
            (ap (λ u. found es q a run.step u (run.len - (from + c))) (sym e)
            ∙ ap (λ k. found es q a run.step (t + c * run.step) k) (sym m)
            ∙ sym none)
            ∙ f.steps;
        whole = f.whole;
        rests =
            append_assoc runs (r ∷ []) (runs_of run.step (missing es q a) (times_from (time_of run (from + c)) run.step (run.len - (from + c))))
            ∙ ap (λ (rs : List GridData). runs ++ rs)
            (ap (λ (x : GridData). x ∷ runs_of run.step (missing es q a) (times_from (time_of run (from + c)) run.step (run.len - (from + c)))) is
            ∙ ap (λ u. part_of run from c ∷ runs_of run.step (missing es q a) (times_from u run.step (run.len - (from + c)))) (sym e)
            ∙ ap (λ k. part_of run from c ∷ runs_of run.step (missing es q a) (times_from (t + c * run.step) run.step k)) (sym m)
            ∙ sym front)
            ∙ f.rests;
        all = omega (arith, all, more, len, w);
        woven = weaves_run run old olds g s cached runs from c r f.woven o w is;
      }

  -- nothing is left
  pub found_all : (cached : List DoneCells) (runs : List GridData) (from : ℕ) → IsFound es q a run old olds cached runs from → run.len ≤ from
      → (steps_of cached ≡ steps_of old ++ served_steps es q a (points run)) × (runs ≡ olds ++ runs_of run.step (missing es q a) (points run))
      × (steps_in cached + lengths runs ≡ steps_in old + lengths olds + run.len) × AreWovenIn run old olds cached runs
  found_all cached runs from f l =
      let z : run.len - from ≡ 0 = omega (arith, l) in
      let all = f.all in (
        sym (append-nil (steps_of cached)) ∙ ap (λ k. steps_of cached ++ found es q a run.step (time_of run from) k) (sym z) ∙ f.steps,
        sym (append-nil runs) ∙ ap (λ k. runs ++ runs_of run.step (missing es q a) (times_from (time_of run from) run.step k)) (sym z) ∙ f.rests,
        omega (arith, all, z),
        weaves_all run old olds cached runs from f.woven l,
      )

-- ---- the same as the code finds it

module _ (es : List Extent) (q : Tree) (a : Asker) (run : GridData) (old : List DoneCells) (olds : List GridData) where
  pub found_part_at : (cached more : List DoneCells) (runs : List GridData) (from n : ℕ) (o : Option DoneCells) (d : DoneCells) (X : Type 0)
      → IsFound es q a run old olds cached runs from → IsGrid run → 1 ≤ run.step → MatchOption o X (IsServedPart es q a run from) → o ≡ Some d → more ≡ cached ++ d ∷ [] → n ≡ d.run.len
      → IsFound es q a run old olds more runs (from + n)
  found_part_at cached more runs from n o d X f g s m i e l =
      let p : IsServedPart es q a run from d = subst (λ (x : Option DoneCells). MatchOption x X (IsServedPart es q a run from)) i m in
      subst (λ k. IsFound es q a run old olds more runs (from + k)) (sym l)
      (subst (λ (ds : List DoneCells). IsFound es q a run old olds ds runs (from + d.run.len)) (sym e) (found_part es q a run old olds cached runs from d f g s p))

  some_missing : (from c : ℕ) → from < run.len → is_served es q a (time_of run from) ≡ false
      → (from + c < run.len → is_served es q a (time_of run (from + c)) ≡ true) → 1 ≤ c
  some_missing from (suc c) l off on = omega arith
  some_missing from zero l off on =
      let e : from + 0 ≡ from = omega arith in
      absurd (true_false (sym (subst (λ k. is_served es q a (time_of run k) ≡ true) e (on (omega (arith, l)))) ∙ off)) where
        true_false : true ≡ false → ⊥
        true_false h = cc

  pub found_run_at : (cached : List DoneCells) (runs more : List GridData) (from c : ℕ) (r : GridData) → IsFound es q a run old olds cached runs from → IsGrid run → 1 ≤ run.step
      → from < run.len → is_served es q a (time_of run from) ≡ false → from + c ≤ run.len → r ≡ part_of run from c
      → ((k : ℕ) → from ≤ k → k < from + c → is_served es q a (time_of run k) ≡ false)
      → (from + c < run.len → is_served es q a (time_of run (from + c)) ≡ true) → more ≡ runs ++ r ∷ []
      → IsFound es q a run old olds cached more (from + c)
  found_run_at cached runs more from c r f g s l none w is off on e =
      subst (λ (rs : List GridData). IsFound es q a run old olds cached rs (from + c)) (sym e)
      (found_run es q a run old olds cached runs from c r f g s (some_missing from c l none on) w is off on)
