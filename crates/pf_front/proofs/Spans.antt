-- Spans of a run, one after another, and pieces in line.
use Rattle.std.proofs.Common.{◌≡◌, ◌∙◌, ℕ, zero, suc, ◌+◌, ◌-◌, ◌*◌, ◌<◌, ◌≤◌, ◌/◌, Bool, true, false, cond, eqb, List, [], ◌∷◌, ◌++◌, refl, sym, ap, subst, arith}
use Rattle.std.specs.Prelude.{nat_eq}
use Rattle.std.proofs.Math.Nat.{add-mul, add-mul-mod_self_right, mul-le-mul, mul-le-mul_right}
use Rattle.std.proofs.lemmas.Bool.{eq-eqb}
use Rattle.std.proofs.lemmas.Bool.Decides.{nat_tests}
use Rattle.pf_base.proofs.GridTimes.{times_from-append}
use Rattle.pf_base.specs.GridLists.{GridData, IsGrid, times_from}
use Rattle.pf_base.specs.Grids.{points}
use Rattle.pf_extent.specs.declared.done.DoneCells.{DoneCells}
use Rattle.pf_front.specs.Spans.{AreInLine, begin_at, whole_spans}
use Rattle.pf_model.specs.Lists.{Each}
use Rattle.pf_query.specs.Covers.{lies_in}
use Rattle.pf_results.specs.Woven.{AreWoven, IsFirstSpan, IsWoven, Span, done, done_in, rest_of, run_in, wanted, wanted_in}
use Rattle.pf_split.specs.Pieces.{pieces_of, put_before}
use Rattle.pf_split.specs.declared.splitting.Piece.{Piece}
pub use Rattle.pf_results.proofs.Weaving.{rest_next}
pub use Rattle.pf_core.proofs.Divided.{points_split}
pub use Rattle.pf_results.proofs.Weaving.{rest_none}

-- ---- each of a list

module _ {X : Type 0} where
  pub each_so : (P Q : X → Type 0) (xs : List X) → ((x : X) → P x → Q x) → Each P xs → Each Q xs
  each_so P Q [] f h = tt
  each_so P Q (x ∷ xs) f h = (f x h.0, each_so P Q xs f h.1)

  pub each_append : (P : X → Type 0) (xs ys : List X) → Each P xs → Each P ys → Each P (xs ++ ys)
  each_append P [] ys h k = k
  each_append P (x ∷ xs) ys h k = (h.0, each_append P xs ys h.1 k)

  pub each_front : (P : X → Type 0) (xs ys : List X) → Each P (xs ++ ys) → Each P xs
  each_front P [] ys h = tt
  each_front P (x ∷ xs) ys h = (h.0, each_front P xs ys h.1)

  pub each_behind : (P : X → Type 0) (xs ys : List X) → Each P (xs ++ ys) → Each P ys
  each_behind P [] ys h = h
  each_behind P (x ∷ xs) ys h = each_behind P xs ys h.1

-- ---- the rest of a run

pub rest_grid : (run : GridData) (n : ℕ) → IsGrid run → n < run.len → IsGrid (rest_of run n)
rest_grid run n g h = record {
  some = omega (arith, h);
  most = let most = g.most in omega (arith, most);
  last =
      let last = g.last in
      let parts : n + (run.len - n - 1) ≡ run.len - 1 = omega (arith, h) in
      let sum : n * run.step + (run.len - n - 1) * run.step ≡ (run.len - 1) * run.step = sym (add-mul n (run.len - n - 1) run.step) ∙ ap (λ k. k * run.step) parts in
      omega (arith, last, sum);
  near = g.near;
  alone = λ z. let one = g.alone z in omega (arith, one, h);
  multiple = λ p. add-mul-mod_self_right run.start n run.step ∙ g.multiple p;
}

pub span_points : (run : GridData) (s : Span) → IsFirstSpan run s → points run ≡ points (run_in s) ++ points (rest_of run (run_in s).len)
span_points run s f =
    points_split run (run_in s).len f.within
    ∙ ap (λ ts. ts ++ points (rest_of run (run_in s).len)) (λ i. times_from (sym f.start i) (sym f.step i) (run_in s).len)

pub no_points : (run : GridData) → run.len ≡ 0 → points run ≡ []
no_points run e = ap (times_from run.start run.step) e

-- ---- where cells begin

abbrev From : ℕ → DoneCells → Type 0
From t d = t ≤ d.run.start

abbrev pub Beyond : ℕ → DoneCells → Type 0
Beyond t d = t < d.run.start

-- those of a run's spans not before it
done_from : (run : GridData) (ss : List Span) → IsWoven run ss → Each (From run.start) (done_in ss)
done_from run [] w = tt
done_from run (done d ∷ ss) w =
    let e = w.0.start in
    (omega (arith, e), each_so (From (run.start + d.run.len * run.step)) (From run.start) (done_in ss) (λ x h. omega (arith, h)) (done_from (rest_of run d.run.len) ss w.1))
done_from run (wanted r ∷ ss) w =
    each_so (From (run.start + r.len * run.step)) (From run.start) (done_in ss) (λ x h. omega (arith, h)) (done_from (rest_of run r.len) ss w.1)

some_step_by : (g : GridData) (s : ℕ) → g.step ≡ s → IsGrid g → 2 ≤ g.len → 1 ≤ g.step
some_step_by g zero e l h = absurd (let one = l.alone e in omega (arith, one, h))
some_step_by g (suc s) e l h = omega (arith, e)

-- a grid of several steps has a distance
pub some_step : (g : GridData) → IsGrid g → 2 ≤ g.len → 1 ≤ g.step
some_step g l h = some_step_by g g.step refl l h

-- behind a first span that isn't done, those of the others begin later
pub done_behind : (run r : GridData) (ss : List Span) → IsGrid run → IsFirstSpan run (wanted r) → IsWoven (rest_of run r.len) ss → Each (Beyond run.start) (done_in ss)
done_behind run r [] g f w = tt
done_behind run r (s ∷ ss) g f w =
    let here = f.grid.some in
    let next = w.0.grid.some in
    let inside = w.0.within in
    let apart = some_step run g (omega (arith, here, next, inside)) in
    let far : 1 * 1 ≤ r.len * run.step = mul-le-mul here apart in
    each_so (From (run.start + r.len * run.step)) (Beyond run.start) (done_in (s ∷ ss)) (λ x h. omega (arith, h, far)) (done_from (rest_of run r.len) (s ∷ ss) w)

-- those of pieces behind a time
pub pieces_beyond : (t : ℕ) (ps : List Piece) (ds : List DoneCells) (rs : List GridData) → Each (λ p. t < p.run.start) ps → AreWoven ps ds rs → Each (Beyond t) ds
pieces_beyond t [] ds rs h w = subst (Each (Beyond t)) (sym w.0) tt
pieces_beyond t (p ∷ ps) ds rs h w =
    let first = h.0 in
    subst (Each (Beyond t)) (sym w.4)
    (each_append (Beyond t) (done_in w.0) w.1 (each_so (From p.run.start) (Beyond t) (done_in w.0) (λ x k. omega (arith, k, first)) (done_from p.run w.0 w.3))
    (pieces_beyond t ps w.1 w.2 h.1 w.6))

not_at : (t u : ℕ) (b : Bool) → nat_eq u t ≡ b → t < u → b ≡ false
not_at t u true e h = absurd (grind (arith, nat_tests))
not_at t u false e h = refl

pub not_begun : (t : ℕ) (ds : List DoneCells) → Each (Beyond t) ds → begin_at t ds ≡ false
not_begun t [] h = refl
not_begun t (d ∷ ds) h = not_at t d.run.start (nat_eq d.run.start t) refl h.0

pub begun : (t : ℕ) (d : DoneCells) (ds : List DoneCells) → d.run.start ≡ t → begin_at t (d ∷ ds) ≡ true
begun t d ds e = eq-eqb d.run.start t e

-- ---- pieces in line

spans_from : (g : GridData) (ps : List Piece) → IsWoven g (whole_spans ps) → Each (λ p. g.start ≤ p.run.start) ps
spans_from g [] w = tt
spans_from g (p ∷ ps) w =
    let e = w.0.start in (
      omega (arith, e),
      each_so (λ q. g.start + p.run.len * g.step ≤ q.run.start) (λ q. g.start ≤ q.run.start) ps (λ q h. omega (arith, h)) (spans_from (rest_of g p.run.len) ps w.1),
    )

behind_by : (g : GridData) (p : Piece) (ps : List Piece) (n : ℕ) → IsGrid g → IsFirstSpan g (wanted p.run) → IsWoven (rest_of g p.run.len) (whole_spans ps) → n < p.run.len
    → Each (λ q. p.run.start + n * p.run.step < q.run.start) ps
behind_by g p [] n l f w h = tt
behind_by g p (q ∷ ps) n l f w h =
    let here = f.grid.some in
    let next = w.0.grid.some in
    let inside = w.0.within in
    let apart = some_step g l (omega (arith, here, next, inside)) in
    let start = f.start in
    let same : n * p.run.step ≡ n * g.step = ap (λ s. n * s) f.step in
    let more : (n + 1) * g.step ≤ p.run.len * g.step = mul-le-mul_right g.step (omega (arith, h)) in
    let one : (n + 1) * g.step ≡ n * g.step + 1 * g.step = add-mul n 1 g.step in
    each_so (λ x. g.start + p.run.len * g.step ≤ x.run.start) (λ x. p.run.start + n * p.run.step < x.run.start) (q ∷ ps)
    (λ x k. omega (arith, k, start, same, more, one, apart)) (spans_from (rest_of g p.run.len) (q ∷ ps) w)

-- the first is behind none
pub line_behind : (p : Piece) (ps : List Piece) (n : ℕ) → AreInLine (p ∷ ps) → n < p.run.len → Each (λ q. p.run.start + n * p.run.step < q.run.start) ps
line_behind p ps n l h =
    let some = l.woven.0.grid.some in
    let within = l.woven.0.within in
    behind_by l.grid p ps n (l.lawful (omega (arith, some, within))) l.woven.0 l.woven.1 h

pub line_next : (p : Piece) (ps : List Piece) → AreInLine (p ∷ ps) → AreInLine ps
line_next p ps l = record {
  grid = rest_of l.grid p.run.len;
  lawful = λ h.
      rest_grid l.grid p.run.len (let some = l.woven.0.grid.some in let within = l.woven.0.within in l.lawful (omega (arith, some, within))) (omega (arith, h));
  woven = l.woven.1;
}

-- ---- wanted runs lie in their run

wanted_by : (run r : GridData) (n : ℕ) → r.start ≡ run.start + n * run.step → r.step ≡ run.step → 1 ≤ r.len → n + r.len ≤ run.len → lies_in r run ≡ true
wanted_by run r n start step some within =
    let same : (r.len - 1) * r.step ≡ (r.len - 1) * run.step = ap (λ s. (r.len - 1) * s) step in
    let sum : (n + (r.len - 1)) * run.step ≡ n * run.step + (r.len - 1) * run.step = add-mul n (r.len - 1) run.step in
    let most : (n + (r.len - 1)) * run.step ≤ (run.len - 1) * run.step = mul-le-mul_right run.step (omega (arith, some, within)) in
    let first : run.start ≤ r.start = omega (arith, start) in
    let last : r.start + (r.len - 1) * r.step ≤ run.start + (run.len - 1) * run.step = omega (arith, start, same, sum, most) in
    grind (arith, nat_tests, first, last)

wanted_in_run : (run : GridData) (n : ℕ) (ss : List Span) → n ≤ run.len → IsWoven (rest_of run n) ss → Each (λ r. lies_in r run ≡ true) (wanted_in ss)
wanted_in_run run n [] h w = tt
wanted_in_run run n (done d ∷ ss) h w =
    let within = w.0.within in
    wanted_in_run run (n + d.run.len) ss (omega (arith, h, within)) (subst (λ (r : GridData). IsWoven r ss) (rest_next run n d.run.len) w.1)
wanted_in_run run n (wanted r ∷ ss) h w =
    let within = w.0.within in (
      wanted_by run r n w.0.start w.0.step w.0.grid.some (omega (arith, h, within)),
      wanted_in_run run (n + r.len) ss (omega (arith, h, within)) (subst (λ (x : GridData). IsWoven x ss) (rest_next run n r.len) w.1),
    )

pub wanted_lie : (run : GridData) (ss : List Span) → IsWoven run ss → Each (λ r. lies_in r run ≡ true) (wanted_in ss)
wanted_lie run ss w = wanted_in_run run 0 ss (omega arith) (subst (λ (r : GridData). IsWoven r ss) (sym (rest_none run)) w)

-- ---- the pieces of a grid are in line

module _ (d step : ℕ) where
  abbrev grid_at : ℕ → ℕ → GridData
  grid_at t n = record { start = t; step = step; len = n }

  alone_grid : (t n c : ℕ) → IsGrid (grid_at t n) → 1 ≤ c → c ≤ n → IsGrid (grid_at t c)
  alone_grid t n c g some few = record {
    some = some;
    most = let most = g.most in omega (arith, most, few);
    last = let last = g.last in let less : (c - 1) * step ≤ (n - 1) * step = mul-le-mul_right step (omega (arith, few)) in omega (arith, last, less);
    near = g.near;
    alone = λ z. let one = g.alone z in omega (arith, one, some, few);
    multiple = g.multiple;
  }

  put_line : (t n : ℕ) (ps : List Piece) (p : Piece) (b : Bool) → IsGrid (grid_at t (suc n)) → IsWoven (grid_at (t + step) n) (whole_spans (p ∷ ps))
      → IsWoven (grid_at t (suc n))
      (whole_spans (cond b (record { interval = p.interval; run = record { start = t; step = step; len = p.run.len + 1 } } ∷ ps)
      (record { interval = t / d; run = record { start = t; step = step; len = 1 } } ∷ p ∷ ps)))
  put_line t n ps p true g w =
      let within = w.0.within in
      let start : t + step + p.run.len * step ≡ t + (p.run.len + 1) * step = let e = add-mul p.run.len 1 step in omega (arith, e) in
      let len : n - p.run.len ≡ suc n - (p.run.len + 1) = omega arith in
      let same : rest_of (grid_at (t + step) n) p.run.len ≡ rest_of (grid_at t (suc n)) (p.run.len + 1) = λ i. record { start = start i; step = step; len = len i } in (
        record {
          grid = alone_grid t (suc n) (p.run.len + 1) g (omega arith) (omega (arith, within));
          start = refl;
          step = refl;
          within = omega (arith, within);
          whole = tt;
        },
        subst (λ (r : GridData). IsWoven r (whole_spans ps)) same w.1,
      )
  put_line t n ps p false g w =
      let start : t + step ≡ t + 1 * step = omega arith in
      let len : n ≡ suc n - 1 = omega arith in
      let same : grid_at (t + step) n ≡ rest_of (grid_at t (suc n)) 1 = λ i. record { start = start i; step = step; len = len i } in (
        record { grid = alone_grid t (suc n) 1 g (omega arith) (omega arith); start = refl; step = refl; within = omega arith; whole = tt },
        subst (λ (r : GridData). IsWoven r (whole_spans (p ∷ ps))) same w,
      )

  put_first : (t n : ℕ) (ps : List Piece) → IsGrid (grid_at t (suc n)) → IsWoven (grid_at (t + step) n) (whole_spans ps)
      → IsWoven (grid_at t (suc n)) (whole_spans (put_before d step t ps))
  put_first t n [] g w = (
    record { grid = alone_grid t (suc n) 1 g (omega arith) (omega arith); start = refl; step = refl; within = omega arith; whole = tt },
    let len : suc n - 1 ≡ n = omega arith in len ∙ w,
  )
  put_first t n (p ∷ ps) g w = put_line t n ps p (eqb p.interval (t / d)) g w

  next_grid : (t n : ℕ) → IsGrid (grid_at t (suc n)) → 1 ≤ n → IsGrid (grid_at (t + step) n)
  next_grid t n g h =
      let start : t + 1 * step ≡ t + step = omega arith in
      let len : suc n - 1 ≡ n = omega arith in
      subst IsGrid (λ i. record { start = start i; step = step; len = len i }) (rest_grid (grid_at t (suc n)) 1 g (omega (arith, h)))

  line_from : (t n : ℕ) → (1 ≤ n → IsGrid (grid_at t n)) → IsWoven (grid_at t n) (whole_spans (pieces_of d step (times_from t step n)))
  line_from t zero g = refl
  line_from t (suc n) g =
      put_first t n (pieces_of d step (times_from (t + step) step n)) (g (omega arith))
      (line_from (t + step) n (λ h. next_grid t n (g (omega arith)) h))

pub pieces_woven : (d : ℕ) (grid : GridData) → IsGrid grid → IsWoven grid (whole_spans (pieces_of d grid.step (points grid)))
pieces_woven d grid g = line_from d grid.step grid.start grid.len (λ h. g)

pub pieces_in_line : (d : ℕ) (grid : GridData) → IsGrid grid → AreInLine (pieces_of d grid.step (points grid))
pieces_in_line d grid g = record { grid = grid; lawful = λ h. g; woven = pieces_woven d grid g }
