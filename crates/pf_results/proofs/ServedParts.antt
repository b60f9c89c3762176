-- The cells of an extent for a part of a run.
use Rattle.std.proofs.Common.{◌≡◌, ◌∙◌, ℕ, pos, ◌+◌, ◌-◌, ◌*◌, ◌/◌, ◌%◌, ◌≤◌, ◌<◌, Bool, true, ◌&&◌, Option, Some, List, [], ◌∷◌, length, take, drop, length-take-le, length-drop, sym, ap, arith}
use Rattle.std.proofs.lemmas.Bool.{eq-eqb, le-leb}
use Rattle.std.proofs.Math.Nat.{add-mul, add-mul-mod_self_right, mul-div_left}
use Rattle.std.specs.Prelude.{nat_eq, nat_le, slice_index_or}
use Rattle.pf_base.specs.GridLists.{GridData, IsGrid}
use Rattle.pf_extent.specs.Steps.{AreSpaced, IsKept, IsLawful, extent_at, has_step}
use Rattle.pf_extent.specs.Uses.{is_usable}
use Rattle.pf_extent.specs.declared.done.DoneCells.{DoneCells}
use Rattle.pf_extent.specs.declared.extent.Asker.{Asker}
use Rattle.pf_extent.specs.declared.extent.Extent.{Extent}
use Rattle.pf_model.specs.declared.cell.Element.{Element}
use Rattle.pf_model.specs.Direct.{Step}
use Rattle.pf_model.specs.Reach.{reach}
use Rattle.pf_model.specs.Trees.{Tree}
use Rattle.pf_results.specs.Runs.{part_of, time_of}
use Rattle.pf_results.specs.Serving.{IsServedPart, serves, step_of}
use Rattle.pf_results.proofs.Adding.{cell_of_part}
use Rattle.pf_results.proofs.Extents as extents
use Rattle.pf_results.proofs.Extents.{extent_spaced, fewer, place_of, same_extent}
use Rattle.pf_results.proofs.Served.{time_plus}

all_three : (a b c : Bool) → a ≡ true → b ≡ true → c ≡ true → (a && b && c) ≡ true
all_three a b c p q r = λ i. p i && q i && r i

module _ (es : List Extent) (q : Tree) (a : Asker) (run : GridData) (from count : ℕ) (e : Extent) (kept : IsKept es) (spaced : AreSpaced run.step es)
    (g : IsGrid run) (s : 1 ≤ run.step) (found : extent_at (time_of run from) es ≡ Some e) (lawful : IsLawful e) (own : has_step (time_of run from) e ≡ true)
    (some : 1 ≤ count) (within : from + count ≤ run.len) (last : (k : ℕ) → from ≤ k → k < from + count → time_of run k ≤ e.last) where
  same_step : e.step ≡ run.step
  same_step = extent_spaced es e (time_of run from) run.step spaced found

  whole_steps : (k : ℕ) → time_of run k % e.step ≡ 0
  whole_steps k = ap (λ n. time_of run k % n) same_step ∙ add-mul-mod_self_right run.start k run.step ∙ g.multiple (omega (arith, s))

  abbrev place : ℕ
  place = (time_of run from - e.first) / e.step

  first_is : time_of run from ≡ e.first + place * e.step
  first_is = place_of e.step e.first (time_of run from) lawful.distance lawful.first (whole_steps from) (extents.step_of (time_of run from) e own).first

  has : (k : ℕ) → k < count → has_step (time_of run (from + k)) e ≡ true
  has k l =
      let b = (extents.step_of (time_of run from) e own).first in
      let t = time_plus run from k in
      all_three (nat_le e.first (time_of run (from + k))) (nat_le (time_of run (from + k)) e.last) (nat_eq (time_of run (from + k) % e.step) 0)
      (le-leb e.first (time_of run (from + k)) (omega (arith, b, t)))
      (le-leb (time_of run (from + k)) e.last (last (from + k) (omega arith) (omega (arith, l))))
      (eq-eqb (time_of run (from + k) % e.step) 0 (whole_steps (from + k)))

  here : (k : ℕ) → k < count → extent_at (time_of run (from + k)) es ≡ Some e
  here k l = same_extent es e (time_of run from) (time_of run (from + k)) kept.apart found (has k l)

  at_place : (k : ℕ) → (time_of run (from + k) - e.first) / e.step ≡ place + k
  at_place k =
      let t = time_plus run from k in
      let d = ap (λ n. k * n) same_step in
      let sum = add-mul place k e.step in
      let m : time_of run (from + k) - e.first ≡ (place + k) * e.step = omega (arith, t, d, sum, first_is) in
      ap (λ n. n / e.step) m ∙ mul-div_left (place + k) (omega (arith, lawful.distance))

  -- its places from that of the first step on are there
  pub part_within : (time_of run from - e.first) / e.step + count ≤ length e.cells
  part_within =
      let k = count - 1 in
      let l = last (from + k) (omega arith) (omega (arith, some)) in
      let t = time_plus run from k in
      let d = ap (λ n. k * n) same_step in
      let sum = add-mul place k e.step in
      let ends : e.last ≡ e.first + ((e.last - e.first) / e.step) * e.step = place_of e.step e.first e.last lawful.distance lawful.first lawful.last lawful.order in
      let few : place + k ≤ (e.last - e.first) / e.step = fewer (place + k) ((e.last - e.first) / e.step) e.step lawful.distance (omega (arith, t, d, sum, first_is, ends, l)) in
      let all = lawful.count in omega (arith, few, all, some)

  pub served_is : ((k : ℕ) → from ≤ k → k < from + count → is_usable e (reach q (pos (time_of run k))) a ≡ true)
      → (d : DoneCells) → d.run ≡ part_of run from count → d.cells ≡ take count (drop ((time_of run from - e.first) / e.step) e.cells) → IsServedPart es q a run from d
  served_is usable d r c =
      let len : d.run.len ≡ count = ap (λ (x : GridData). x.len) r in
      let w = part_within in
      let left = length-drop place e.cells in
      let many : length d.cells ≡ count = ap length c ∙ length-take-le count (drop place e.cells) (omega (arith, left, w)) in
      let fit = λ (k : ℕ) (l : k < d.run.len). (let x : k < count = omega (arith, l, len) in x) in
      record {
        some = omega (arith, some, len);
        within = omega (arith, within, len);
        run_is = r ∙ ap (part_of run from) (sym len);
        whole = many ∙ sym len;
        served = λ k l. ap (λ (o : Option Extent). serves o q a (time_of run (from + k))) (here k (fit k l))
            ∙ usable (from + k) (omega arith) (omega (arith, l, len));
        cells = λ k l. ap (λ (o : Option Extent). step_of (time_of run (from + k)) o) (here k (fit k l))
            ∙ ap (λ n. one (time_of run (from + k)) (slice_index_or e.cells n [])) (at_place k)
            ∙ ap (one (time_of run (from + k)))
            (sym (ap (λ (xs : List (List Element)). slice_index_or xs k []) c ∙ cell_of_part place count k e.cells (fit k l)));
      } where
        one : ℕ → List Element → List Step
        one t x = record { time = t; elements = x } ∷ []
