-- A piece's spans, one after another.
use Rattle.std.proofs.Common.{◌≡◌, ◌∙◌, ℕ, suc, ◌+◌, ◌*◌, ◌<◌, ◌≤◌, true, false, not, nat_lt, List, [], ◌∷◌, ◌++◌, append_assoc, append-nil, length, refl, sym, ap, subst, arith}
use Rattle.std.proofs.lemmas.Bool.Decides.{nat_tests}
use Rattle.std.proofs.lemmas.List.{length-append}
use Rattle.pf_base.proofs.GridTimes.{times_from-append}
use Rattle.pf_base.specs.GridLists.{GridData, IsGrid, times_from}
use Rattle.pf_base.specs.Grids.{points}
use Rattle.pf_base.specs.declared.plain.Row.{Row}
use Rattle.pf_extent.specs.Done.{AreWhole}
use Rattle.pf_extent.specs.declared.done.DoneCells.{DoneCells}
use Rattle.pf_front.proofs.Spans.{begun, done_behind, each_append, line_behind, not_begun, pieces_beyond, rest_grid, rest_next, rest_none}
use Rattle.pf_front.specs.Spans.{AllCells, AreAllTrue, AreCellsAt, AreInLine, AreTrueCells, IsNextPiece, IsTakenFrom, all_of, begin_at, runs_in}
use Rattle.pf_front.specs.declared.joining.PieceCells.{PieceCells}
use Rattle.pf_model.specs.Lists.{Each}
use Rattle.pf_model.specs.Trees.{Tree}
use Rattle.pf_query.specs.Jobs.{is_empty}
use Rattle.pf_results.specs.Woven.{AreWoven, IsFirstSpan, IsWoven, Span, done, done_in, rest_of, run_in, wanted, wanted_in}
use Rattle.pf_split.specs.declared.splitting.Piece.{Piece}
use Rattle.pf_results.proofs.Weaving.{wanted_more, done_more}

-- ---- cells, one after another

pub all_more : (parts : List AllCells) (cells : AllCells) → all_of (parts ++ cells ∷ []) ≡ all_of parts ++ cells
all_more [] cells = append-nil cells
all_more (p ∷ parts) cells = ap (λ cs. p ++ cs) (all_more parts cells) ∙ sym (append_assoc p (all_of parts) cells)

pub cells_append : (samples : List Row) (query : Tree) (ts us : List ℕ) (cs ds : AllCells) → AreCellsAt samples query ts cs → AreCellsAt samples query us ds
    → AreCellsAt samples query (ts ++ us) (cs ++ ds)
cells_append samples query [] us [] ds a b = b
cells_append samples query [] us (c ∷ cs) ds a b = absurd a
cells_append samples query (t ∷ ts) us [] ds a b = absurd a
cells_append samples query (t ∷ ts) us (c ∷ cs) ds a b = (a.0, cells_append samples query ts us cs ds a.1 b)

-- ---- what is left of cells

-- the cells and the runs of what is left of a piece, and of those behind it
abbrev pub AreLeftOf : GridData → List Piece → List DoneCells → List GridData → Type 0
AreLeftOf rest ps ds rs =
    (ss : List Span) × (ds' : List DoneCells) × (rs' : List GridData) × IsWoven rest ss × (ds ≡ done_in ss ++ ds') × (rs ≡ wanted_in ss ++ rs') × AreWoven ps ds' rs'

-- the cells of so many steps of a piece were taken
pub record IsWalked (run : GridData) (ps : List Piece) (ds es ds' es' : List DoneCells) (n : ℕ) (parts : List AllCells) : Type 0 where
  pub lawful : IsGrid run
  pub apart : (k : ℕ) → k < run.len → Each (λ q. run.start + k * run.step < q.run.start) ps
  pub spans : List Span
  pub go_on : (rest : List Span) → IsWoven (rest_of run n) rest → IsWoven run (spans ++ rest)
  pub done_are : ds ≡ done_in spans ++ ds'
  pub wanted_are : runs_in es ≡ wanted_in spans ++ runs_in es'
  pub left : AreLeftOf (rest_of run n) ps ds' (runs_in es')
  pub within : n ≤ run.len
  pub whole : AreWhole es'
  pub many : length (all_of parts) ≡ n
  pub values : (samples : List Row) (query : Tree) → AreAllTrue samples query ds → AreAllTrue samples query es
      → AreCellsAt samples query (times_from run.start run.step n) (all_of parts) × (AreAllTrue samples query ds' × AreAllTrue samples query es')

pub walked_none : (all : List Piece) (p : Piece) (ps : List Piece) (ds es : List DoneCells) → all ≡ p ∷ ps → AreInLine all → AreWoven all ds (runs_in es) → AreWhole es
    → IsWalked p.run ps ds es ds es 0 []
walked_none all p ps ds es e line woven whole =
    let l = subst AreInLine e line in
    let w = subst (λ (x : List Piece). AreWoven x ds (runs_in es)) e woven in
    record {
      lawful = l.woven.0.grid;
      apart = λ k h. line_behind p ps k l h;
      spans = [];
      go_on = λ rest h. subst (λ (r : GridData). IsWoven r rest) (rest_none p.run) h;
      done_are = refl;
      wanted_are = refl;
      left = subst (λ (r : GridData). AreLeftOf r ps ds (runs_in es)) (sym (rest_none p.run)) w;
      within = omega arith;
      whole = whole;
      many = refl;
      values = λ samples query a b. (tt, (a, b));
    }

-- ---- one span more

heads_same : {X : Type 0} (x y : X) (xs ys : List X) → x ∷ xs ≡ y ∷ ys → x ≡ y
heads_same x y xs ys e = cc

tails_same : {X : Type 0} (x y : X) (xs ys : List X) → x ∷ xs ≡ y ∷ ys → xs ≡ ys
tails_same x y xs ys e = cc

-- the cells that were taken are of a span of the rest
record IsTakenSpan (rest : GridData) (ps : List Piece) (ds es ds' es' : List DoneCells) (d : DoneCells) : Type 0 where
  span : Span
  first : IsFirstSpan rest span
  run_is : d.run ≡ run_in span
  whole : length d.cells ≡ d.run.len
  done_are : ds ≡ done_in (span ∷ []) ++ ds'
  wanted_are : runs_in es ≡ wanted_in (span ∷ []) ++ runs_in es'
  left : AreLeftOf (rest_of rest d.run.len) ps ds' (runs_in es')
  wholes : AreWhole es'
  values : (samples : List Row) (query : Tree) → AreAllTrue samples query ds → AreAllTrue samples query es
      → AreTrueCells samples query d × (AreAllTrue samples query ds' × AreAllTrue samples query es')

module _ (rest : GridData) (ps : List Piece) (ds es : List DoneCells) (g : IsGrid rest) (behind : Each (λ q. rest.start < q.run.start) ps) (whole : AreWhole es) where
  of_done : (x : DoneCells) (ss : List Span) (more : List DoneCells) (rs : List GridData) → IsFirstSpan rest (done x) → IsWoven (rest_of rest x.run.len) ss
      → ds ≡ x ∷ (done_in ss ++ more) → runs_in es ≡ wanted_in ss ++ rs → AreWoven ps more rs
      → (ds' es' : List DoneCells) (d : DoneCells) → IsTakenFrom (begin_at rest.start ds) ds es d ds' es' → IsTakenSpan rest ps ds es ds' es' d
  of_done x ss more rs f w e r a ds' es' d t =
      let test : begin_at rest.start ds ≡ true = ap (begin_at rest.start) e ∙ begun rest.start x (done_in ss ++ more) f.start in
      let taken : (ds ≡ d ∷ ds') × (es' ≡ es) = subst (λ b. IsTakenFrom b ds es d ds' es') test t in
      let same : x ≡ d = heads_same x d (done_in ss ++ more) ds' (sym e ∙ taken.0) in
      let tail : done_in ss ++ more ≡ ds' = tails_same x d (done_in ss ++ more) ds' (sym e ∙ taken.0) in
      record {
        span = done x;
        first = f;
        run_is = ap (λ (y : DoneCells). y.run) (sym same);
        whole = subst (λ (y : DoneCells). length y.cells ≡ y.run.len) same f.whole;
        done_are = taken.0 ∙ ap (λ (y : DoneCells). y ∷ ds') (sym same);
        wanted_are = ap runs_in (sym taken.1);
        left =
            subst (λ (y : DoneCells). AreLeftOf (rest_of rest y.run.len) ps ds' (runs_in es')) same
            (ss, more, rs, w, sym tail, ap runs_in taken.1 ∙ r, a);
        wholes = subst AreWhole (sym taken.1) whole;
        values = λ samples query u v.
            let all = subst (AreAllTrue samples query) taken.0 u in (all.0, (all.1, subst (AreAllTrue samples query) (sym taken.1) v));
      }

  wanted_begins : (r : GridData) (ss : List Span) (more : List DoneCells) (rs : List GridData) → IsFirstSpan rest (wanted r) → IsWoven (rest_of rest r.len) ss
      → ds ≡ done_in ss ++ more → AreWoven ps more rs → begin_at rest.start ds ≡ false
  wanted_begins r ss more rs f w e a =
      ap (begin_at rest.start) e
      ∙ not_begun rest.start (done_in ss ++ more)
      (each_append (λ d. rest.start < d.run.start) (done_in ss) more (done_behind rest r ss g f w) (pieces_beyond rest.start ps more rs behind a))

  of_wanted : (r : GridData) (ss : List Span) (more : List DoneCells) (rs : List GridData) → IsFirstSpan rest (wanted r) → IsWoven (rest_of rest r.len) ss
      → ds ≡ done_in ss ++ more → runs_in es ≡ r ∷ (wanted_in ss ++ rs) → AreWoven ps more rs
      → (ds' es' : List DoneCells) (d : DoneCells) → IsTakenFrom (begin_at rest.start ds) ds es d ds' es' → IsTakenSpan rest ps ds es ds' es' d
  of_wanted r ss more rs f w e k a ds' es' d t =
      let taken : (es ≡ d ∷ es') × (ds' ≡ ds) = subst (λ b. IsTakenFrom b ds es d ds' es') (wanted_begins r ss more rs f w e a) t in
      let both : r ∷ (wanted_in ss ++ rs) ≡ d.run ∷ runs_in es' = sym k ∙ ap runs_in taken.0 in
      let same : r ≡ d.run = heads_same r d.run (wanted_in ss ++ rs) (runs_in es') both in
      let tail : wanted_in ss ++ rs ≡ runs_in es' = tails_same r d.run (wanted_in ss ++ rs) (runs_in es') both in
      let wholes : AreWhole (d ∷ es') = subst AreWhole taken.0 whole in
      record {
        span = wanted r;
        first = f;
        run_is = sym same;
        whole = wholes.0;
        done_are = sym taken.1;
        wanted_are = ap runs_in taken.0 ∙ ap (λ (x : GridData). x ∷ runs_in es') (sym same);
        left =
            subst (λ (x : GridData). AreLeftOf (rest_of rest x.len) ps ds' (runs_in es')) same
            (ss, more, rs, w, taken.1 ∙ e, sym tail, a);
        wholes = wholes.1;
        values = λ samples query u v.
            let all = subst (AreAllTrue samples query) taken.0 v in (all.0, (subst (AreAllTrue samples query) (sym taken.1) u, all.1));
      }

  some_left : 1 ≤ rest.len → AreLeftOf rest ps ds (runs_in es) → begin_at rest.start ds ≡ false → 0 < length es
  some_left some (ss, more, rs, w, e, k, a) none = by ss w e k where
    count : (xs : List DoneCells) → runs_in xs ≡ runs_in es → 0 < length xs → 0 < length es
    count xs q h = let a = counted xs in let b = counted es in let c = ap length q in omega (arith, a, b, c, h) where
      counted : (ys : List DoneCells) → length (runs_in ys) ≡ length ys
      counted [] = refl
      counted (y ∷ ys) = ap suc (counted ys)

    by : (ss : List Span) → IsWoven rest ss → ds ≡ done_in ss ++ more → runs_in es ≡ wanted_in ss ++ rs → 0 < length es
    by [] w e k = absurd (omega (arith, some, w))
    by (done x ∷ ss) w e k = absurd (no (sym (ap (begin_at rest.start) e ∙ begun rest.start x (done_in ss ++ more) w.0.start) ∙ none)) where
      no : true ≡ false → ⊥
      no q = cc
    by (wanted r ∷ ss) w e k = several es k where
      several : (xs : List DoneCells) → runs_in xs ≡ r ∷ (wanted_in ss ++ rs) → 0 < length xs
      several [] q = cc
      several (x ∷ xs) q = omega arith

  taken_span : 1 ≤ rest.len → AreLeftOf rest ps ds (runs_in es) → (ds' es' : List DoneCells) (d : DoneCells) → IsTakenFrom (begin_at rest.start ds) ds es d ds' es'
      → IsTakenSpan rest ps ds es ds' es' d
  taken_span some (ss, more, rs, w, e, k, a) ds' es' d t = by ss w e k where
    by : (ss : List Span) → IsWoven rest ss → ds ≡ done_in ss ++ more → runs_in es ≡ wanted_in ss ++ rs → IsTakenSpan rest ps ds es ds' es' d
    by [] w e k = absurd (omega (arith, some, w))
    by (done x ∷ ss) w e k = of_done x ss more rs w.0 w.1 e k a ds' es' d t
    by (wanted r ∷ ss) w e k = of_wanted r ss more rs w.0 w.1 e k a ds' es' d t

module _ (run : GridData) (ps : List Piece) (ds es ds' es' : List DoneCells) (n : ℕ) (parts : List AllCells) (w : IsWalked run ps ds es ds' es' n parts) (h : n < run.len) where
  -- some cells are left
  pub some_next : (t : ℕ) → t ≡ run.start + n * run.step → begin_at t ds' ≡ false → 0 < length es'
  some_next t e none =
      some_left (rest_of run n) ps ds' es' (rest_grid run n w.lawful h) (w.apart n h) w.whole (omega (arith, h)) w.left
      (ap (λ u. begin_at u ds') (sym e) ∙ none)

  module _ (t : ℕ) (e : t ≡ run.start + n * run.step) (ds'' es'' : List DoneCells) (d : DoneCells) (taken : IsTakenFrom (begin_at t ds') ds' es' d ds'' es'') where
    span : IsTakenSpan (rest_of run n) ps ds' es' ds'' es'' d
    span =
        taken_span (rest_of run n) ps ds' es' (rest_grid run n w.lawful h) (w.apart n h) w.whole (omega (arith, h)) w.left ds'' es'' d
        (subst (λ u. IsTakenFrom (begin_at u ds') ds' es' d ds'' es'') e taken)

    pub next_within : n + d.run.len ≤ run.len
    next_within = let within = span.first.within in let same = ap (λ (r : GridData). r.len) span.run_is in omega (arith, within, same, h)

    pub next_some : 1 ≤ d.run.len
    next_some = let some = span.first.grid.some in let same = ap (λ (r : GridData). r.len) span.run_is in omega (arith, some, same)

    points_more : times_from run.start run.step n ++ points d.run ≡ times_from run.start run.step (n + d.run.len)
    points_more =
        ap (λ ts. times_from run.start run.step n ++ ts)
        (λ i. times_from ((ap (λ (r : GridData). r.start) span.run_is ∙ span.first.start) i) ((ap (λ (r : GridData). r.step) span.run_is ∙ span.first.step) i) d.run.len)
        ∙ sym (times_from-append run.start run.step n d.run.len)

    pub walked_more : IsWalked run ps ds es ds'' es'' (n + d.run.len) (parts ++ d.cells ∷ [])
    walked_more = record {
      lawful = w.lawful;
      apart = w.apart;
      spans = w.spans ++ span.span ∷ [];
      go_on = λ rest k.
          let same : rest_of run (n + d.run.len) ≡ rest_of (rest_of run n) (run_in span.span).len =
          sym (rest_next run n d.run.len) ∙ ap (λ (r : GridData). rest_of (rest_of run n) r.len) span.run_is in
          subst (IsWoven run) (sym (append_assoc w.spans (span.span ∷ []) rest)) (w.go_on (span.span ∷ rest) (span.first, subst (λ (r : GridData). IsWoven r rest) same k));
      done_are =
          w.done_are ∙ ap (λ xs. done_in w.spans ++ xs) span.done_are ∙ sym (append_assoc (done_in w.spans) (done_in (span.span ∷ [])) ds'')
          ∙ ap (λ xs. xs ++ ds'') (sym (done_more w.spans span.span));
      wanted_are =
          w.wanted_are ∙ ap (λ xs. wanted_in w.spans ++ xs) span.wanted_are ∙ sym (append_assoc (wanted_in w.spans) (wanted_in (span.span ∷ [])) (runs_in es''))
          ∙ ap (λ xs. xs ++ runs_in es'') (sym (wanted_more w.spans span.span));
      left = subst (λ (r : GridData). AreLeftOf r ps ds'' (runs_in es'')) (rest_next run n d.run.len) span.left;
      within = next_within;
      whole = span.wholes;
      many =
          let all = ap length (all_more parts d.cells) in
          let both = length-append (all_of parts) d.cells in
          let many = w.many in
          let own = span.whole in
          omega (arith, all, both, many, own);
      values = λ samples query u v.
          let old = w.values samples query u v in
          let new = span.values samples query old.1.0 old.1.1 in (
            subst (AreCellsAt samples query (times_from run.start run.step (n + d.run.len))) (sym (all_more parts d.cells))
                (subst (λ ts. AreCellsAt samples query ts (all_of parts ++ d.cells)) points_more
                (cells_append samples query (times_from run.start run.step n) (points d.run) (all_of parts) d.cells old.0 new.0)),
            new.1,
          );
    }

-- ---- the whole piece

no_span : (rest : GridData) (ss : List Span) → rest.len ≡ 0 → IsWoven rest ss → ss ≡ []
no_span rest [] e w = refl
no_span rest (s ∷ ss) e w = absurd (let some = w.0.grid.some in let within = w.0.within in omega (arith, e, some, within))

counted : (ds : List DoneCells) → length (runs_in ds) ≡ length ds
counted [] = refl
counted (d ∷ ds) = ap suc (counted ds)

some_evaluated : (rs : List GridData) (m k : ℕ) → m ≡ length rs + k → nat_lt k m ≡ not (is_empty rs)
some_evaluated [] m k e = grind (arith, nat_tests, e)
some_evaluated (r ∷ rs) m k e = grind (arith, nat_tests, e)

pub walked_all : (all : List Piece) (p : Piece) (ps : List Piece) (ds es ds' es' : List DoneCells) (n : ℕ) (parts : List AllCells) (found : PieceCells) → all ≡ p ∷ ps
    → IsWalked p.run ps ds es ds' es' n parts → p.run.len ≤ n → found.run ≡ p.run → found.cells ≡ all_of parts → found.evaluated ≡ nat_lt (length es') (length es)
    → IsNextPiece all ds es found ps ds' es'
walked_all all p ps ds es ds' es' n parts found e w h run_is cells_are flag =
    let within = w.within in
    let end : n ≡ p.run.len = omega (arith, h, within) in
    let none : (rest_of p.run n).len ≡ 0 = omega (arith, end) in
    let empty : w.left.0 ≡ [] = no_span (rest_of p.run n) w.left.0 none w.left.3 in
    let both = ap length w.wanted_are in
    let sum = length-append (wanted_in w.spans) (runs_in es') in
    let one = counted es in
    let other = counted es' in
    record {
      piece = p;
      front = e;
      run_is = run_is;
      spans = w.spans;
      woven = subst (IsWoven p.run) (append-nil w.spans) (w.go_on [] none);
      done_are = w.done_are;
      wanted_are = w.wanted_are;
      behind =
          let ds_are : w.left.1 ≡ ds' = sym (w.left.4 ∙ ap (λ (ss : List Span). done_in ss ++ w.left.1) empty) in
          let rs_are : w.left.2 ≡ runs_in es' = sym (w.left.5 ∙ ap (λ (ss : List Span). wanted_in ss ++ w.left.2) empty) in
          subst (AreWoven ps ds') rs_are (subst (λ xs. AreWoven ps xs w.left.2) ds_are w.left.6);
      whole = w.whole;
      evaluated_is = flag ∙ some_evaluated (wanted_in w.spans) (length es) (length es') (omega (arith, both, sum, one, other));
      many = ap length cells_are ∙ w.many ∙ end;
      values = λ samples query u v.
          let all = w.values samples query u v in (
            subst (AreCellsAt samples query (points p.run)) (sym cells_are)
                (subst (λ k. AreCellsAt samples query (times_from p.run.start p.run.step k) (all_of parts)) end all.0),
            all.1,
          );
    }
