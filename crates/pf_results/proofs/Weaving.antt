-- A run woven of spans, one span after another.
use Rattle.std.proofs.Common.{◌≡◌, ◌∙◌, ℕ, ◌+◌, ◌-◌, ◌*◌, ◌≤◌, List, [], ◌∷◌, ◌++◌, append_assoc, append-nil, refl, sym, ap, subst, arith}
use Rattle.std.proofs.Math.Nat.{add-mul}
use Rattle.pf_base.specs.GridLists.{GridData, IsGrid}
use Rattle.pf_extent.specs.declared.done.DoneCells.{DoneCells}
use Rattle.pf_extent.specs.declared.extent.Asker.{Asker}
use Rattle.pf_extent.specs.declared.extent.Extent.{Extent}
use Rattle.pf_model.specs.Trees.{Tree}
use Rattle.pf_results.specs.Runs.{part_of}
use Rattle.pf_results.specs.Serving.{IsServedPart}
use Rattle.pf_results.specs.Woven.{AreWovenIn, IsFirstSpan, IsWoven, Span, done, done_in, rest_of, run_in, wanted, wanted_in}
use Rattle.pf_results.proofs.Parts.{part_is_grid}

pub done_more : (ss : List Span) (s : Span) → done_in (ss ++ s ∷ []) ≡ done_in ss ++ done_in (s ∷ [])
done_more [] s = refl
done_more (done d ∷ ss) s = ap (λ (ds : List DoneCells). d ∷ ds) (done_more ss s)
done_more (wanted r ∷ ss) s = done_more ss s

pub wanted_more : (ss : List Span) (s : Span) → wanted_in (ss ++ s ∷ []) ≡ wanted_in ss ++ wanted_in (s ∷ [])
wanted_more [] s = refl
wanted_more (done d ∷ ss) s = wanted_more ss s
wanted_more (wanted r ∷ ss) s = ap (λ (rs : List GridData). r ∷ rs) (wanted_more ss s)

pub rest_none : (run : GridData) → rest_of run 0 ≡ run
rest_none run =
    let start : run.start + 0 * run.step ≡ run.start = omega arith in
    let len : run.len - 0 ≡ run.len = omega arith in
    λ i. record { start = start i; step = run.step; len = len i }

pub rest_next : (run : GridData) (from n : ℕ) → rest_of (rest_of run from) n ≡ rest_of run (from + n)
rest_next run from n =
    let start : run.start + from * run.step + n * run.step ≡ run.start + (from + n) * run.step = omega (arith, add-mul from n run.step) in
    let len : run.len - from - n ≡ run.len - (from + n) = omega arith in
    λ i. record { start = start i; step = run.step; len = len i }

-- what was added so far is of spans of a run's first steps
pub record WeavesSo (run : GridData) (old : List DoneCells) (olds : List GridData) (cached : List DoneCells) (runs : List GridData) (from : ℕ) : Type 0 where
  pub spans : List Span
  pub done_are : cached ≡ old ++ done_in spans
  pub wanted_are : runs ≡ olds ++ wanted_in spans
  pub go_on : (rest : List Span) → IsWoven (rest_of run from) rest → IsWoven run (spans ++ rest)

module _ (run : GridData) (old : List DoneCells) (olds : List GridData) where
  pub weaves_none : WeavesSo run old olds old olds 0
  weaves_none = record {
    spans = [];
    done_are = sym (append-nil old);
    wanted_are = sym (append-nil olds);
    go_on = λ rest h. subst (λ (r : GridData). IsWoven r rest) (rest_none run) h;
  }

  weaves_span : (cached more : List DoneCells) (runs mores : List GridData) (from : ℕ) (s : Span) → WeavesSo run old olds cached runs from
      → IsFirstSpan (rest_of run from) s → more ≡ cached ++ done_in (s ∷ []) → mores ≡ runs ++ wanted_in (s ∷ [])
      → WeavesSo run old olds more mores (from + (run_in s).len)
  weaves_span cached more runs mores from s w f e g = record {
    spans = w.spans ++ s ∷ [];
    done_are = e ∙ ap (λ (ds : List DoneCells). ds ++ done_in (s ∷ [])) w.done_are ∙ append_assoc old (done_in w.spans) (done_in (s ∷ []))
        ∙ ap (λ (ds : List DoneCells). old ++ ds) (sym (done_more w.spans s));
    wanted_are = g ∙ ap (λ (rs : List GridData). rs ++ wanted_in (s ∷ [])) w.wanted_are ∙ append_assoc olds (wanted_in w.spans) (wanted_in (s ∷ []))
        ∙ ap (λ (rs : List GridData). olds ++ rs) (sym (wanted_more w.spans s));
    go_on = λ rest h. subst (λ (ss : List Span). IsWoven run ss) (sym (append_assoc w.spans (s ∷ []) rest))
        (w.go_on (s ∷ rest) (f, subst (λ (r : GridData). IsWoven r rest) (sym (rest_next run from (run_in s).len)) h));
  }

  module _ (g : IsGrid run) (step : 1 ≤ run.step) where
    pub weaves_part : (es : List Extent) (q : Tree) (a : Asker) (cached : List DoneCells) (runs : List GridData) (from : ℕ) (d : DoneCells)
        → WeavesSo run old olds cached runs from → IsServedPart es q a run from d → WeavesSo run old olds (cached ++ d ∷ []) runs (from + d.run.len)
    weaves_part es q a cached runs from d w p =
        let within = p.within in
        weaves_span cached (cached ++ d ∷ []) runs runs from (done d) w
        (record {
          grid = subst IsGrid (sym p.run_is) (part_is_grid run from d.run.len g step p.some p.within);
          start = ap (λ (r : GridData). r.start) p.run_is;
          step = ap (λ (r : GridData). r.step) p.run_is;
          within = omega (arith, within);
          whole = p.whole;
        })
        refl (sym (append-nil runs))

    pub weaves_run : (cached : List DoneCells) (runs : List GridData) (from c : ℕ) (r : GridData) → WeavesSo run old olds cached runs from → 1 ≤ c
        → from + c ≤ run.len → r ≡ part_of run from c → WeavesSo run old olds cached (runs ++ r ∷ []) (from + c)
    weaves_run cached runs from c r w some within is =
        let len : r.len ≡ c = ap (λ (x : GridData). x.len) is in
        subst (λ n. WeavesSo run old olds cached (runs ++ r ∷ []) (from + n)) len
        (weaves_span cached cached runs (runs ++ r ∷ []) from (wanted r) w
        (record {
          grid = subst IsGrid (sym is) (part_is_grid run from c g step some within);
          start = ap (λ (x : GridData). x.start) is;
          step = ap (λ (x : GridData). x.step) is;
          within = omega (arith, within, len);
          whole = tt;
        })
        (sym (append-nil cached)) refl)

  -- nothing is left
  pub weaves_all : (cached : List DoneCells) (runs : List GridData) (from : ℕ) → WeavesSo run old olds cached runs from → run.len ≤ from
      → AreWovenIn run old olds cached runs
  weaves_all cached runs from w h = record {
    spans = w.spans;
    woven = subst (λ (ss : List Span). IsWoven run ss) (append-nil w.spans) (w.go_on [] (omega (arith, h)));
    done_are = w.done_are;
    wanted_are = w.wanted_are;
  }
