-- The pieces of a grid, one after another.
use Rattle.std.proofs.Common.{◌≡◌, ◌∙◌, ℕ, zero, suc, ◌+◌, ◌*◌, ◌/◌, ◌<◌, ◌≤◌, Bool, true, false, cond, not, List, [], ◌∷◌, ◌++◌, append_assoc, append-nil, length, refl, sym, ap, subst, arith}
use Rattle.std.specs.Prelude.{Contains}
use Rattle.std.specs.List.{AllByRecursion}
use Rattle.std.proofs.lemmas.List.{length-append}
use Rattle.std.proofs.lemmas.List.Elements.{Contains-append_left, Contains-append_right}
use Rattle.std.proofs.Math.Nat.{suc-mul}
use Rattle.pf_base.proofs.GridTimes.{length-times_from}
use Rattle.pf_base.specs.GridLists.{GridData, IsGrid, times_from}
use Rattle.pf_base.specs.Grids.{points}
use Rattle.pf_base.specs.declared.plain.Row.{Row}
use Rattle.pf_extent.specs.Done.{AreWhole, steps_in}
use Rattle.pf_extent.specs.declared.done.DoneCells.{DoneCells}
use Rattle.pf_front.proofs.Spans.{each_append, line_next, pieces_in_line, pieces_woven, span_points, wanted_lie}
use Rattle.pf_front.proofs.Walks.{all_more, cells_append}
use Rattle.pf_front.specs.Spans.{AllCells, AreAllTrue, AreCellsAt, AreInLine, AreNotedOf, ArePieceCells, AreTrueCells, IsNextPiece, IsNotedBy, IsRunIn, all_of, noted_of, piece_runs, runs_in, whole_spans}
use Rattle.pf_front.specs.declared.joining.PieceCells.{PieceCells}
use Rattle.pf_model.specs.Lists.{Each}
use Rattle.pf_model.specs.Trees.{Tree}
use Rattle.pf_query.specs.Jobs.{is_empty}
use Rattle.pf_results.specs.Woven.{AreWoven, IsWoven, Span, done, done_in, rest_of, wanted, wanted_in}
use Rattle.pf_split.specs.Pieces.{AreIntervals, pieces_of, points_of, steps_of}
use Rattle.pf_split.specs.declared.splitting.Piece.{Piece}

-- ---- the runs of pieces are a grid's, each in one interval

abbrev IsPieceIn : ℕ → GridData → Piece → Type 0
IsPieceIn interval grid p = IsRunIn interval grid p.run

all_times : (P : ℕ → Type 0) (t step n k : ℕ) → AllByRecursion P (times_from t step n) → k < n → P (t + k * step)
all_times P t step zero k a h = absurd (omega (arith, h))
all_times P t step (suc n) zero a h = let e : t ≡ t + 0 * step = omega arith in subst P e a.0
all_times P t step (suc n) (suc k) a h =
    let e : t + step + k * step ≡ t + suc k * step = let m = suc-mul k step in omega (arith, m) in
    subst P e (all_times P (t + step) step n k a.1 (omega (arith, h)))

in_place : (interval : ℕ) (p : Piece) → AllByRecursion (λ t. t / interval ≡ p.interval) (points_of p)
    → (k : ℕ) → k < p.run.len → (p.run.start + k * p.run.step) / interval ≡ p.run.start / interval
in_place interval p a k h =
    let at = all_times (λ t. t / interval ≡ p.interval) p.run.start p.run.step p.run.len k a h in
    let first = all_times (λ t. t / interval ≡ p.interval) p.run.start p.run.step p.run.len 0 a (omega (arith, h)) in
    let e : p.run.start + 0 * p.run.step ≡ p.run.start = omega arith in
    at ∙ sym (ap (λ t. t / interval) (sym e) ∙ first)

module _ (interval : ℕ) (grid : GridData) where
  abbrev Among : List ℕ → Type 0
  Among ts = (t : ℕ) → Contains ts t → Contains (points grid) t

  runs_by : (run : GridData) (ps : List Piece) → IsWoven run (whole_spans ps) → run.step ≡ grid.step → Among (points run) → AreIntervals interval ps
      → Each (IsPieceIn interval grid) ps
  runs_by run [] w e among a = tt
  runs_by run (p ∷ ps) w e among a =
      let split = span_points run (wanted p.run) w.0 in (
        record {
          run_is = record {
            lawful = w.0.grid;
            step = w.0.step ∙ e;
            among = λ t c.
                among t (subst (λ (ts : List ℕ). Contains ts t) (sym split) (Contains-append_left (points p.run) (points (rest_of run p.run.len)) t c));
          };
          place = in_place interval p a.0;
        },
        runs_by (rest_of run p.run.len) ps w.1 e
            (λ t c. among t (subst (λ (ts : List ℕ). Contains ts t) (sym split) (Contains-append_right (points p.run) (points (rest_of run p.run.len)) t c))) a.2,
      )

pub pieces_in : (interval : ℕ) (grid : GridData) → IsGrid grid → AreIntervals interval (pieces_of interval grid.step (points grid))
    → Each (IsPieceIn interval grid) (pieces_of interval grid.step (points grid))
pieces_in interval grid g a = runs_by interval grid grid (pieces_of interval grid.step (points grid)) (pieces_woven interval grid g) refl (λ t c. c) a

-- ---- so many pieces

pub record AreBegun (interval : ℕ) (grid : GridData) (ds es : List DoneCells) (ps : List Piece) (ds' es' : List DoneCells) (cells : List AllCells) (noted : List DoneCells) : Type 0 where
  pub line : AreInLine ps
  pub woven : AreWoven ps ds' (runs_in es')
  pub left : AreWhole es'
  pub own : Each (IsPieceIn interval grid) ps
  pub many : length (all_of cells) + length (steps_of ps) ≡ grid.len
  pub go_on : (more : List DoneCells) → AreNotedOf ps (runs_in es') more → AreNotedOf (pieces_of interval grid.step (points grid)) (runs_in es) (noted ++ more)
  pub each : Each (λ d. IsRunIn interval grid d.run) noted
  pub whole : AreWhole noted
  pub few : steps_in noted + length (steps_of ps) ≤ grid.len
  pub all : ds ≡ [] → (runs_in noted ++ piece_runs ps ≡ piece_runs (pieces_of interval grid.step (points grid))) × (ds' ≡ [])
  pub values : (samples : List Row) (query : Tree) → AreAllTrue samples query ds → AreAllTrue samples query es
      → ((more : AllCells) → AreCellsAt samples query (steps_of ps) more → AreCellsAt samples query (points grid) (all_of cells ++ more))
      × (AreAllTrue samples query noted × (AreAllTrue samples query ds' × AreAllTrue samples query es'))

module _ (interval : ℕ) (grid : GridData) (ds es : List DoneCells) where
  abbrev pieces_all : List Piece
  pieces_all = pieces_of interval grid.step (points grid)

  begun_first : IsGrid grid → steps_of pieces_all ≡ points grid → AreIntervals interval pieces_all → AreWoven pieces_all ds (runs_in es) → AreWhole es
      → AreBegun interval grid ds es pieces_all ds es [] []
  begun_first g all a woven whole =
      let count : length (steps_of pieces_all) ≡ grid.len = ap length all ∙ length-times_from grid.start grid.step grid.len in
      record {
        line = pieces_in_line interval grid g;
        woven = woven;
        left = whole;
        own = pieces_in interval grid g a;
        many = omega (arith, count);
        go_on = λ more h. h;
        each = tt;
        whole = tt;
        few = omega (arith, count);
        all = λ e. (refl, e);
        values = λ samples query u v. (λ more h. subst (λ ts. AreCellsAt samples query ts more) all h, (tt, (u, v)));
      }

  pub begun_none : (ps : List Piece) (cells : List AllCells) (noted : List DoneCells) → ps ≡ pieces_all → cells ≡ [] → noted ≡ [] → IsGrid grid → steps_of ps ≡ points grid
      → AreIntervals interval ps → AreWoven pieces_all ds (runs_in es) → AreWhole es → AreBegun interval grid ds es ps ds es cells noted
  begun_none ps cells noted e c n g all a woven whole =
      subst (λ (x : List Piece). AreBegun interval grid ds es x ds es cells noted) (sym e)
      (subst (λ (x : List AllCells). AreBegun interval grid ds es pieces_all ds es x noted) (sym c)
      (subst (λ (x : List DoneCells). AreBegun interval grid ds es pieces_all ds es [] x) (sym n)
      (begun_first g (ap steps_of (sym e) ∙ all) (subst (AreIntervals interval) e a) woven whole)))

  -- one piece more
  module _ (ps : List Piece) (ds' es' : List DoneCells) (cells : List AllCells) (noted : List DoneCells) (b : AreBegun interval grid ds es ps ds' es' cells noted)
      (found : PieceCells) (ps' : List Piece) (ds'' es'' : List DoneCells) (n : IsNextPiece ps ds' es' found ps' ds'' es'') where
    abbrev here : Piece
    here = n.piece

    own_all : Each (IsPieceIn interval grid) (here ∷ ps')
    own_all = subst (Each (IsPieceIn interval grid)) n.front b.own

    steps_all : length (steps_of ps) ≡ here.run.len + length (steps_of ps')
    steps_all =
        let e = ap (λ (x : List Piece). length (steps_of x)) n.front in
        let both = length-append (points_of here) (steps_of ps') in
        let own = length-times_from here.run.start here.run.step here.run.len in
        omega (arith, e, both, own)

    note_by : (own : List GridData) (flag : Bool) (more : List DoneCells) → flag ≡ not (is_empty own)
        → IsNotedBy here own (cond flag (record { run = found.run; cells = found.cells } ∷ []) [] ++ more) more
    note_by [] true more e = absurd (no e) where
      no : true ≡ false → ⊥
      no k = cc
    note_by [] false more e = refl
    note_by (r ∷ rs) true more e = (record { run = found.run; cells = found.cells }, n.run_is, refl)
    note_by (r ∷ rs) false more e = absurd (no e) where
      no : false ≡ true → ⊥
      no k = cc

    noted_next : (more : List DoneCells) → AreNotedOf ps' (runs_in es'') more → AreNotedOf pieces_all (runs_in es) ((noted ++ noted_of found) ++ more)
    noted_next more h =
        subst (AreNotedOf pieces_all (runs_in es)) (sym (append_assoc noted (noted_of found) more))
        (b.go_on (noted_of found ++ more)
        (subst (λ (x : List Piece). AreNotedOf x (runs_in es') (noted_of found ++ more)) (sym n.front)
        (wanted_in n.spans, runs_in es'', more, wanted_lie here.run n.spans n.woven, n.wanted_are, note_by (wanted_in n.spans) found.evaluated more n.evaluated_is, h)))

    each_flag : (P : DoneCells → Type 0) (flag : Bool) (d : DoneCells) → P d → Each P (cond flag (d ∷ []) [])
    each_flag P true d p = (p, tt)
    each_flag P false d p = tt

    steps_append : (xs ys : List DoneCells) → steps_in (xs ++ ys) ≡ steps_in xs + steps_in ys
    steps_append [] ys = omega arith
    steps_append (x ∷ xs) ys = let rest = steps_append xs ys in omega (arith, rest)

    flag_steps : (flag : Bool) → steps_in (cond flag (record { run = found.run; cells = found.cells } ∷ []) []) ≤ here.run.len
    flag_steps true = let same = ap (λ (r : GridData). r.len) n.run_is in omega (arith, same)
    flag_steps false = omega arith

    some_wanted : (ss : List Span) → IsWoven here.run ss → done_in ss ≡ [] → is_empty (wanted_in ss) ≡ false
    some_wanted [] w e = absurd (let some = own_all.0.run_is.lawful.some in omega (arith, some, w))
    some_wanted (done d ∷ ss) w e = absurd (no e) where
      no : d ∷ done_in ss ≡ [] → ⊥
      no k = cc
    some_wanted (wanted r ∷ ss) w e = refl

    noted_run : (flag : Bool) → flag ≡ true → runs_in (cond flag (record { run = found.run; cells = found.cells } ∷ []) []) ≡ here.run ∷ []
    noted_run true e = ap (λ (r : GridData). r ∷ []) n.run_is
    noted_run false e = absurd (no e) where
      no : false ≡ true → ⊥
      no k = cc

    nothing_in : (xs ys : List DoneCells) → [] ≡ xs ++ ys → (xs ≡ []) × (ys ≡ [])
    nothing_in [] ys e = (refl, sym e)
    nothing_in (x ∷ xs) ys e = absurd (no e) where
      no : [] ≡ x ∷ (xs ++ ys) → ⊥
      no k = cc

    runs_append : (xs ys : List DoneCells) → runs_in (xs ++ ys) ≡ runs_in xs ++ runs_in ys
    runs_append [] ys = refl
    runs_append (x ∷ xs) ys = ap (λ rs. x.run ∷ rs) (runs_append xs ys)

    all_next : ds ≡ [] → (runs_in (noted ++ noted_of found) ++ piece_runs ps' ≡ piece_runs pieces_all) × (ds'' ≡ [])
    all_next e =
        let old = b.all e in
        let none = nothing_in (done_in n.spans) ds'' (sym old.1 ∙ n.done_are) in
        let flag : found.evaluated ≡ true = n.evaluated_is ∙ ap not (some_wanted n.spans n.woven none.0) in (
          ap (λ rs. rs ++ piece_runs ps') (runs_append noted (noted_of found))
              ∙ append_assoc (runs_in noted) (runs_in (noted_of found)) (piece_runs ps')
              ∙ ap (λ rs. runs_in noted ++ rs) (ap (λ rs. rs ++ piece_runs ps') (noted_run found.evaluated flag) ∙ sym (ap piece_runs n.front))
              ∙ old.0,
          none.1,
        )

    begun_next : AreBegun interval grid ds es ps' ds'' es'' (cells ++ found.cells ∷ []) (noted ++ noted_of found)
    begun_next = record {
      line = line_next here ps' (subst AreInLine n.front b.line);
      woven = n.behind;
      left = n.whole;
      own = own_all.1;
      many =
          let all = ap length (all_more cells found.cells) in
          let both = length-append (all_of cells) found.cells in
          let own = n.many in
          let many = b.many in
          let steps = steps_all in
          omega (arith, all, both, own, many, steps);
      go_on = noted_next;
      each =
          each_append (λ d. IsRunIn interval grid d.run) noted (noted_of found) b.each
          (each_flag (λ d. IsRunIn interval grid d.run) found.evaluated (record { run = found.run; cells = found.cells })
          (subst (IsRunIn interval grid) (sym n.run_is) own_all.0));
      whole =
          each_append (λ d. length d.cells ≡ d.run.len) noted (noted_of found) b.whole
          (each_flag (λ d. length d.cells ≡ d.run.len) found.evaluated (record { run = found.run; cells = found.cells })
          (n.many ∙ ap (λ (r : GridData). r.len) (sym n.run_is)));
      few =
          let more = steps_append noted (noted_of found) in
          let own = flag_steps found.evaluated in
          let few = b.few in
          let steps = steps_all in
          omega (arith, more, own, few, steps);
      all = all_next;
      values = λ samples query u v.
          let old = b.values samples query u v in
          let new = n.values samples query old.1.1.0 old.1.1.1 in (
            λ more h.
                subst (AreCellsAt samples query (points grid))
                (sym (append_assoc (all_of cells) found.cells more) ∙ ap (λ (cs : AllCells). cs ++ more) (sym (all_more cells found.cells)))
                (old.0 (found.cells ++ more)
                (subst (λ (x : List Piece). AreCellsAt samples query (steps_of x) (found.cells ++ more)) (sym n.front)
                (cells_append samples query (points here.run) (steps_of ps') found.cells more new.0 h))),
            (
              each_append (AreTrueCells samples query) noted (noted_of found) old.1.0
                  (each_flag (AreTrueCells samples query) found.evaluated (record { run = found.run; cells = found.cells })
                  (subst (λ (r : GridData). AreCellsAt samples query (points r) found.cells) (sym n.run_is) new.0)),
              new.1,
            ),
          );
    }

    pub begun_more : (cells' : List AllCells) (noted' : List DoneCells) → cells' ≡ cells ++ found.cells ∷ [] → noted' ≡ noted ++ noted_of found
        → AreBegun interval grid ds es ps' ds'' es'' cells' noted'
    begun_more cells' noted' c m =
        subst (λ (x : List AllCells). AreBegun interval grid ds es ps' ds'' es'' x noted') (sym c)
        (subst (AreBegun interval grid ds es ps' ds'' es'' (cells ++ found.cells ∷ [])) (sym m) begun_next)

  -- all of them
  pub begun_all : (ps : List Piece) (ds' es' : List DoneCells) (cells : List AllCells) (noted : List DoneCells) → ps ≡ []
      → AreBegun interval grid ds es ps ds' es' cells noted → ArePieceCells interval grid ds es cells noted
  begun_all ps ds' es' cells noted e b =
      let none = ap (λ (x : List Piece). length (steps_of x)) e in
      let woven = subst (λ (x : List Piece). AreWoven x ds' (runs_in es')) e b.woven in
      record {
        many = let many = b.many in omega (arith, many, none);
        noted_are =
            subst (AreNotedOf pieces_all (runs_in es)) (append-nil noted)
            (b.go_on [] (subst (λ (x : List Piece). AreNotedOf x (runs_in es') []) (sym e) (woven.1, refl)));
        each = b.each;
        whole = b.whole;
        few = let few = b.few in omega (arith, few);
        all = λ h. sym (append-nil (runs_in noted)) ∙ ap (λ (x : List Piece). runs_in noted ++ piece_runs x) (sym e) ∙ (b.all h).0;
        values = λ samples query u v.
            let all = b.values samples query u v in (
              subst (AreCellsAt samples query (points grid)) (append-nil (all_of cells))
                  (all.0 [] (subst (λ (x : List Piece). AreCellsAt samples query (steps_of x) []) (sym e) tt)),
              all.1.0,
            );
      }
