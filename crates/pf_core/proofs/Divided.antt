-- A query's steps are divided among the cells that were cached and the runs of the others.
use Rattle.std.proofs.Common.{◌≡◌, ℕ, ◌+◌, ◌-◌, ◌/◌, ◌≤◌, inl, inr, Bool, true, false, cond, nat_eq, Option, Some, None, List, [], ◌∷◌, ◌++◌, filter, length, refl, sym, ap, ◌∙◌, arith, subst}
use Rattle.std.specs.Arc.{arc_value}
use Rattle.std.specs.Option.{is_some}
use Rattle.std.specs.Prelude.{Contains, ◌==◌, not, pos}
use Rattle.std.proofs.lemmas.Bool.Decides.{nat_tests}
use Rattle.std.proofs.lemmas.List.Elements.{Contains-append_left, Contains-append_right}
use Rattle.pf_base.proofs.GridTimes.{length-times_from, times_from-append}
use Rattle.pf_base.specs.GridLists.{GridData, IsGrid, times_from}
use Rattle.pf_base.specs.Grids.{points}
use Rattle.pf_base.specs.declared.plain.Limits.{Limits}
use Rattle.pf_extent.specs.Done.{AreWhole, steps_in}
use Rattle.pf_extent.specs.declared.done.DoneCells.{DoneCells}
use Rattle.pf_extent.specs.declared.extent.Asker.{Asker}
use Rattle.pf_extent.specs.declared.key.Key.{Key}
use Rattle.pf_journal.specs.Asking.{Asked}
use Rattle.pf_journal.specs.Machine.{Open, frozen_steps, log_of}
use Rattle.pf_model.specs.Canonical.{canonical}
use Rattle.pf_model.specs.Direct.{Step}
use Rattle.pf_model.specs.Evaluation.{eval}
use Rattle.pf_model.specs.Lists.{Each}
use Rattle.pf_model.specs.Log.{Change, Rules, rules_of, store_of}
use Rattle.pf_model.specs.Trees.{Tree}
use Rattle.pf_model.specs.declared.cell.StepCell.TheVariants.{Good}
use Rattle.pf_print.specs.OwnTexts.{HasText}
use Rattle.pf_results.specs.Keeping.{is_fixed}
use Rattle.pf_results.proofs.Pieced.{steps_many}
use Rattle.pf_results.specs.Pieces.{AreOfOneQuery, key_at, missing_over, served_over, touched_over}
use Rattle.pf_results.specs.Entries.{touched}
use Rattle.pf_results.specs.Runs.{lengths}
use Rattle.pf_results.specs.Serving.{steps_of}
use Rattle.pf_results.specs.Truth.{AreTrue, IsAsker, IsValue, Logs}
use Rattle.pf_results.specs.Woven.{AreWoven, IsFirstSpan, IsWoven, Span, done, rest_of, run_in, wanted, wanted_in}
use Rattle.pf_results.specs.declared.serving.Found.{Found}
use Rattle.pf_split.specs.Pieces.{pieces_of, points_of, put_before, steps_of as steps_by_piece}
use Rattle.pf_split.specs.declared.splitting.Piece.{Piece}
use Rattle.pf_core.specs.Cached.{KeptData, asker_of, key_in, used_by}
use Rattle.pf_core.specs.Divisions.{Divides, IsDividedBy, IsDivisionFor, asker_by, key_by, pieces_by, used_with}
use Rattle.pf_core.specs.Jobs.{AreDivided, IsRunOf, IsValueAt, pieces_in}
use Rattle.pf_core.specs.States.{IsQuery}
use Rattle.pf_core.specs.declared.plan.Division.{Division}
use Rattle.pf_core.specs.declared.query.Query.{Query}
use Rattle.pf_core.proofs.Lists.{each_map}
use Rattle.pf_core.proofs.Logs.{IsFront, asker_stands, front_taken}
use Rattle.pf_core.proofs.Machines.{bool_cases}

-- ---- the distance of the steps of a piece

abbrev AreAt : ℕ → List Piece → Type 0
AreAt step ps = Each (λ (p : Piece). p.run.step ≡ step) ps

stepped_before : (interval step t : ℕ) (ps : List Piece) → AreAt step ps → AreAt step (put_before interval step t ps)
stepped_before interval step t [] h = (refl, tt)
stepped_before interval step t (p ∷ ps) h = elim (bool_cases (p.interval == t / interval)) [
  | inl e ↦ rw e (refl, h.1)
  | inr e ↦ rw e (refl, (h.0, h.1))
]

stepped_pieces : (interval step : ℕ) (ts : List ℕ) → AreAt step (pieces_of interval step ts)
stepped_pieces interval step [] = tt
stepped_pieces interval step (t ∷ ts) = stepped_before interval step t (pieces_of interval step ts) (stepped_pieces interval step ts)

-- ---- the runs of spans are runs of the grid

-- the times of the first steps of a run and of the others are those of the run
pub points_split : (run : GridData) (n : ℕ) → n ≤ run.len → points run ≡ times_from run.start run.step n ++ points (rest_of run n)
points_split run n h =
    let all : run.len ≡ n + (run.len - n) = omega (arith, h) in
    ap (times_from run.start run.step) all ∙ times_from-append run.start run.step n (run.len - n)

module _ (grid : GridData) where
  abbrev Among : List ℕ → Type 0
  Among ts = (t : ℕ) → Contains ts t → Contains (points grid) t

  span_first : (run : GridData) (s : Span) → IsFirstSpan run s → run.step ≡ grid.step → Among (points run) → IsRunOf grid (run_in s)
  span_first run s h e among = record {
    lawful = h.grid;
    step = h.step ∙ e;
    among = λ t c.
        among t (subst (λ (ts : List ℕ). Contains ts t) (sym (points_split run (run_in s).len h.within))
        (Contains-append_left _ (points (rest_of run (run_in s).len)) t
        (subst (λ (ts : List ℕ). Contains ts t) (λ i. times_from (h.start i) (h.step i) (run_in s).len) c)));
  }

  rest_among : (run : GridData) (s : Span) → IsFirstSpan run s → Among (points run) → Among (points (rest_of run (run_in s).len))
  rest_among run s h among t c =
      among t (subst (λ (ts : List ℕ). Contains ts t) (sym (points_split run (run_in s).len h.within))
      (Contains-append_right (times_from run.start run.step (run_in s).len) (points (rest_of run (run_in s).len)) t c))

  spans_runs : (run : GridData) (ss : List Span) → IsWoven run ss → run.step ≡ grid.step → Among (points run) → Each (IsRunOf grid) (wanted_in ss)
  spans_runs run [] h e among = tt
  spans_runs run (done d ∷ ss) h e among =
      spans_runs (rest_of run d.run.len) ss h.1 e (rest_among run (done d) h.0 among)
  spans_runs run (wanted r ∷ ss) h e among =
      (span_first run (wanted r) h.0 e among, spans_runs (rest_of run r.len) ss h.1 e (rest_among run (wanted r) h.0 among))

  each_both : (P : GridData → Type 0) (xs ys : List GridData) → Each P xs → Each P ys → Each P (xs ++ ys)
  each_both P [] ys h k = k
  each_both P (x ∷ xs) ys h k = (h.0, each_both P xs ys h.1 k)

  pub woven_runs : (ps : List Piece) (ds : List DoneCells) (rs : List GridData) → AreWoven ps ds rs → AreAt grid.step ps → Among (steps_by_piece ps)
      → Each (IsRunOf grid) rs
  woven_runs [] ds rs h at among = subst (Each (IsRunOf grid)) (sym h.1) tt
  woven_runs (p ∷ ps) ds rs h at among =
      subst (Each (IsRunOf grid)) (sym h.5)
      (each_both (IsRunOf grid) (wanted_in h.0) h.2
      (spans_runs p.run h.0 h.3 at.0 (λ t c. among t (Contains-append_left (points_of p) (steps_by_piece ps) t c)))
      (woven_runs ps h.1 h.2 h.6 at.1 (λ t c. among t (Contains-append_right (points_of p) (steps_by_piece ps) t c))))

  pub few_runs : (rs : List GridData) → Each (IsRunOf grid) rs → length rs ≤ lengths rs
  few_runs [] h = omega arith
  few_runs (r ∷ rs) h = let rest = few_runs rs h.1 in let some = h.0.lawful.some in omega (arith, rest, some)

-- ---- keys

touched_alike : (a b : Key) (ps : List Piece) (kept : KeptData) → AreOfOneQuery a b → touched_over b ps kept ≡ touched_over a ps kept
touched_alike a b [] kept h = refl
touched_alike a b (p ∷ ps) kept h =
    let one : key_at b p.interval ≡ key_at a p.interval = λ i. record { tenant = h.tenant i; text = h.text i; step = h.step i; interval = p.interval } in
    ap (λ (k : Key). touched_over b ps (touched k kept)) one ∙ touched_alike a b ps (touched (key_at a p.interval) kept) h

-- ---- a query that is kept, and that of the machine

pub key_is : (rules : Rules) (q : Query) (o : Open) → IsQuery rules q o → key_by q ≡ key_in o 0
key_is rules q o h = λ i. record {
  tenant = sym h.tenant i;
  text = (sym h.asked i).text;
  step = (sym h.asked i).query.grid.step;
  interval = 0;
}

pub asker_same : (rules : Rules) (q : Query) (o : Open) → IsQuery rules q o → asker_by q.pin ≡ asker_of rules o
asker_same rules q o h = λ i. record { pin = h.pinned.numbered i; floor = h.pinned.floored i; generation = h.pinned.aged i }

-- ---- an instant query

one_piece : (interval : ℕ) (grid : GridData) → IsGrid grid → grid.step ≡ 0 → AreWoven (pieces_by interval grid) [] (grid ∷ [])
one_piece interval grid g e =
    let one : grid.len ≡ 1 = g.alone e in
    subst (λ (n : ℕ). AreWoven (pieces_of interval grid.step (times_from grid.start grid.step n)) [] (grid ∷ [])) (sym one) (
      wanted grid ∷ [],
      [],
      [],
      (record { grid = g; start = refl; step = refl; within = omega (arith, one); whole = tt }, omega (arith, one)),
      refl,
      refl,
      (refl, refl),
    )

-- ---- what the code finds

-- of a range query
pub divides_range : (kept : KeptData) (interval : ℕ) (q : Query) (a : Asked) (found : Found) (first key : Key) (grid : GridData) (asker : Asker) (tree : Tree)
    → a ≡ arc_value q.asked → grid ≡ a.query.grid → tree ≡ a.query.tree → first ≡ key_by q → asker ≡ asker_by q.pin
    → IsGrid grid → a.instant ≡ nat_eq a.query.grid.step 0 → a.instant ≡ false → HasText a.query.tree → canonical a.query.tree ≡ a.text
    → steps_by_piece (pieces_by interval grid) ≡ points grid → AreOfOneQuery first key
    → AreWoven (pieces_by interval grid) found.cached.items found.runs.items → AreWhole found.cached.items
    → steps_of found.cached.items ≡ served_over kept first tree asker (pieces_by interval grid)
    → found.runs.items ≡ missing_over kept first tree asker (pieces_by interval grid)
    → steps_in found.cached.items + lengths found.runs.items ≡ grid.len
    → ((rules : Rules) (logs : Logs) → AreTrue rules interval logs kept.entries → IsAsker rules (logs first.tenant) asker → HasText tree → canonical tree ≡ first.text
    → Each (IsValue rules (logs first.tenant) asker tree) (steps_of found.cached.items))
    → ((rules : Rules) (logs : Logs) → AreTrue rules interval logs kept.entries → IsAsker rules (logs first.tenant) asker → HasText tree → canonical tree ≡ first.text
    → steps_in found.cached.items ≤ length (filter (is_fixed tree asker) (points grid)))
    → Divides kept interval q (record { found = found; key = Some key; grid = grid })
divides_range kept interval q a found first key grid asker tree ea eg et ef ek g instant ranged written text all one woven whole cached runs count values few = record {
  grid = grid_is;
  lawful = g;
  instant_is = subst (λ (x : Asked). x.instant ≡ nat_eq x.query.grid.step 0) ea instant;
  steps = subst (λ (x : GridData). steps_by_piece (pieces_by interval x) ≡ points x) grid_is all;
  parts = (
    ap (λ (x : Asked). x.instant) (sym ea) ∙ ranged,
    record {
      one = subst (λ (k : Key). AreOfOneQuery k key) ef one;
      woven = subst (λ (x : GridData). AreWoven (pieces_by interval x) found.cached.items found.runs.items) grid_is woven;
      whole = whole;
      cached = cached ∙ (λ i. served_over kept (ef i) (tree_is i) (ek i) (pieces_by interval (grid_is i)));
      runs = runs ∙ (λ i. missing_over kept (ef i) (tree_is i) (ek i) (pieces_by interval (grid_is i)));
      all = count ∙ ap (λ (x : GridData). x.len) grid_is;
      values = λ rules logs stands asks.
          (subst (λ (t : Tree). HasText t → canonical t ≡ (key_by q).text → Each (IsValue rules (logs q.tenant) (asker_by q.pin) t) (steps_of found.cached.items)) tree_is
          (subst (λ (x : Asker). IsAsker rules (logs q.tenant) x → HasText tree → canonical tree ≡ (key_by q).text
          → Each (IsValue rules (logs q.tenant) x tree) (steps_of found.cached.items)) ek
          (subst (λ (k : Key). IsAsker rules (logs k.tenant) asker → HasText tree → canonical tree ≡ k.text
          → Each (IsValue rules (logs k.tenant) asker tree) (steps_of found.cached.items)) ef (values rules logs stands)) asks))
          (subst (λ (x : Asked). HasText x.query.tree) ea written) (subst (λ (x : Asked). canonical x.query.tree ≡ x.text) ea text);
      few = λ rules logs stands asks.
          (subst (λ (x : GridData). steps_in found.cached.items ≤ length (filter (is_fixed (arc_value q.asked).query.tree (asker_by q.pin)) (points x))) grid_is
          ((subst (λ (t : Tree). HasText t → canonical t ≡ (key_by q).text → steps_in found.cached.items ≤ length (filter (is_fixed t (asker_by q.pin)) (points grid))) tree_is
          (subst (λ (x : Asker). IsAsker rules (logs q.tenant) x → HasText tree → canonical tree ≡ (key_by q).text
          → steps_in found.cached.items ≤ length (filter (is_fixed tree x) (points grid))) ek
          (subst (λ (k : Key). IsAsker rules (logs k.tenant) asker → HasText tree → canonical tree ≡ k.text
          → steps_in found.cached.items ≤ length (filter (is_fixed tree asker) (points grid))) ef (few rules logs stands)) asks))
          (subst (λ (x : Asked). HasText x.query.tree) ea written) (subst (λ (x : Asked). canonical x.query.tree ≡ x.text) ea text)));
    },
  );
} where
  grid_is : grid ≡ (arc_value q.asked).query.grid
  grid_is = eg ∙ ap (λ (x : Asked). x.query.grid) ea

  tree_is : tree ≡ (arc_value q.asked).query.tree
  tree_is = et ∙ ap (λ (x : Asked). x.query.tree) ea

-- whether no key was made
abbrev pub is_none : Option Key → Bool
is_none None = true
is_none (Some k) = false

pub none_is : (k : Option Key) (b : Bool) → is_some k ≡ not b → b ≡ is_none k
none_is None true h = refl
none_is None false h = cc
none_is (Some k) true h = cc
none_is (Some k) false h = refl

-- ---- the division

-- of what is asked
module _ (l : Limits) (kept : KeptData) (o : Open) where
  abbrev grid_in : GridData
  grid_in = o.asked.query.grid

  of_instant : (found : Found) → o.asked.instant ≡ true → o.asked.instant ≡ nat_eq grid_in.step 0 → IsGrid grid_in
      → found.cached.items ≡ [] → found.runs.items ≡ grid_in ∷ [] → IsDivisionFor l kept o found true
  of_instant found once is g none one =
      let zero : grid_in.step ≡ 0 = let t = sym is ∙ once in grind (arith, nat_tests, t) in
      let alone = g.alone zero in
      let many = length-times_from grid_in.start grid_in.step grid_in.len in
      record {
        divided = subst (λ (ds : List DoneCells). AreDivided l o ds found.runs.items) (sym none)
            (subst (λ (rs : List GridData). AreDivided l o [] rs) (sym one) (record {
              woven = one_piece l.interval grid_in g zero;
              each = (record { lawful = g; step = refl; among = λ t c. c }, tt);
              values = tt;
              alone = λ _. (refl, refl);
            }));
        cached = ap steps_in none ∙ sym (ap (λ (b : Bool). length (cond b [] (served_over kept (key_in o 0) o.asked.query.tree (asker_of (rules_of l) o) (pieces_in l o)))) once);
        runs = one ∙ sym (ap (λ (b : Bool). cond b (grid_in ∷ []) (missing_over kept (key_in o 0) o.asked.query.tree (asker_of (rules_of l) o) (pieces_in l o))) once);
        few_cached = let zero_steps = ap steps_in none in omega (arith, zero_steps);
        reused = record { at_once = λ _. ap steps_in none; frozen = let zero_steps = ap steps_in none in omega (arith, zero_steps) };
        few_runs = let runs = ap (λ (rs : List GridData). length rs) one in omega (arith, runs);
        most = let most = g.most in omega (arith, many, most);
        instant_is = sym once;
      }

  of_range : (found : Found) → o.asked.instant ≡ false → IsGrid grid_in → steps_by_piece (pieces_in l o) ≡ points grid_in
      → AreWoven (pieces_in l o) found.cached.items found.runs.items → AreWhole found.cached.items
      → steps_of found.cached.items ≡ served_over kept (key_in o 0) o.asked.query.tree (asker_of (rules_of l) o) (pieces_in l o)
      → found.runs.items ≡ missing_over kept (key_in o 0) o.asked.query.tree (asker_of (rules_of l) o) (pieces_in l o)
      → steps_in found.cached.items + lengths found.runs.items ≡ grid_in.len
      → Each (IsValueAt l o) (steps_of found.cached.items) → steps_in found.cached.items ≤ frozen_steps l o
      → IsDivisionFor l kept o found false
  of_range found ranged g all woven whole cached runs count values frozen =
      let each = woven_runs grid_in (pieces_in l o) found.cached.items found.runs.items woven
      (stepped_pieces l.interval grid_in.step (points grid_in)) (λ t c. subst (λ (ts : List ℕ). Contains ts t) all c) in
      let few = few_runs grid_in found.runs.items each in
      let many = length-times_from grid_in.start grid_in.step grid_in.len in
      let most = g.most in
      record {
        divided = record { woven = woven; each = each; values = values; alone = λ once. let no : true ≡ false = sym once ∙ ranged in cc };
        cached = sym (steps_many found.cached.items whole) ∙ ap (λ (ss : List Step). length ss) cached
            ∙ sym (ap (λ (b : Bool). length (cond b [] (served_over kept (key_in o 0) o.asked.query.tree (asker_of (rules_of l) o) (pieces_in l o)))) ranged);
        runs = runs ∙ sym (ap (λ (b : Bool). cond b (grid_in ∷ []) (missing_over kept (key_in o 0) o.asked.query.tree (asker_of (rules_of l) o) (pieces_in l o))) ranged);
        few_cached = omega (arith, count, many);
        reused = record { at_once = λ once. let no : true ≡ false = sym once ∙ ranged in cc; frozen = frozen };
        few_runs = omega (arith, count, few, most);
        most = omega (arith, many, most);
        instant_is = sym ranged;
      }

-- what the code found is the division of the open query
value_by : (l : Limits) (logs : List (List Change)) (o : Open) → IsFront logs o → (s : Step)
    → IsValue (rules_of l) (log_of logs o.tenant) (asker_of (rules_of l) o) o.asked.query.tree s → IsValueAt l o s
value_by l logs o front s h =
    subst (λ (log : List Change). eval (store_of (rules_of l) log).samples o.asked.query.tree (pos s.time) ≡ Good s.elements) (front_taken logs o front) h

pub division : (l : Limits) (kept : KeptData) (logs : List (List Change)) (q : Query) (o : Open) (d : Division) → IsQuery (rules_of l) q o → IsFront logs o
    → AreTrue (rules_of l) l.interval (log_of logs) kept.entries → Divides kept l.interval q d → IsDivisionFor l kept o d.found (is_none d.key)
division l kept logs q o d h front true_so v = by d.key v.parts where
  back : arc_value q.asked ≡ o.asked
  back = sym h.asked

  lawful : IsGrid o.asked.query.grid
  lawful = subst (λ (a : Asked). IsGrid a.query.grid) back (subst IsGrid v.grid v.lawful)

  asks : IsAsker (rules_of l) (log_of logs q.tenant) (asker_by q.pin)
  asks = subst (λ u. IsAsker (rules_of l) (log_of logs u) (asker_by q.pin)) h.tenant
      (subst (IsAsker (rules_of l) (log_of logs o.tenant)) (sym (asker_same (rules_of l) q o h)) (asker_stands (rules_of l) logs o front))

  by : (k : Option Key) → IsDividedBy kept l.interval q d.found k → IsDivisionFor l kept o d.found (is_none k)
  by None p =
      of_instant l kept o d.found (ap (λ (a : Asked). a.instant) h.asked ∙ p.0)
      (subst (λ (a : Asked). a.instant ≡ nat_eq a.query.grid.step 0) back v.instant_is) lawful p.1
      (subst (λ (a : Asked). d.found.runs.items ≡ a.query.grid ∷ []) back p.2)
  by (Some k) p =
      of_range l kept o d.found (ap (λ (a : Asked). a.instant) h.asked ∙ p.0) lawful
      (subst (λ (a : Asked). steps_by_piece (pieces_by l.interval a.query.grid) ≡ points a.query.grid) back v.steps)
      (subst (λ (a : Asked). AreWoven (pieces_by l.interval a.query.grid) d.found.cached.items d.found.runs.items) back p.1.woven) p.1.whole
      (p.1.cached ∙ (λ i. served_over kept (key_is (rules_of l) q o h i) (back i).query.tree (asker_same (rules_of l) q o h i) (pieces_by l.interval (back i).query.grid)))
      (p.1.runs ∙ (λ i. missing_over kept (key_is (rules_of l) q o h i) (back i).query.tree (asker_same (rules_of l) q o h i) (pieces_by l.interval (back i).query.grid)))
      (subst (λ (a : Asked). steps_in d.found.cached.items + lengths d.found.runs.items ≡ a.query.grid.len) back p.1.all)
      (each_map _ _ (value_by l logs o front) (steps_of d.found.cached.items)
      (subst (λ (a : Asker). Each (IsValue (rules_of l) (log_of logs o.tenant) a o.asked.query.tree) (steps_of d.found.cached.items)) (asker_same (rules_of l) q o h)
      (subst (λ (a : Asked). Each (IsValue (rules_of l) (log_of logs o.tenant) (asker_by q.pin) a.query.tree) (steps_of d.found.cached.items)) back
      (subst (λ u. Each (IsValue (rules_of l) (log_of logs u) (asker_by q.pin) (arc_value q.asked).query.tree) (steps_of d.found.cached.items)) (sym h.tenant)
      (p.1.values (rules_of l) (log_of logs) true_so asks)))))
      (subst (λ (a : Asker). steps_in d.found.cached.items ≤ length (filter (is_fixed o.asked.query.tree a) (points o.asked.query.grid))) (asker_same (rules_of l) q o h)
      (subst (λ (a : Asked). steps_in d.found.cached.items ≤ length (filter (is_fixed a.query.tree (asker_by q.pin)) (points a.query.grid))) back
      (p.1.few (rules_of l) (log_of logs) true_so asks)))

-- ---- what is kept once the keys are used

pub used_is : (l : Limits) (kept : KeptData) (q : Query) (o : Open) (d : Division) → IsQuery (rules_of l) q o → Divides kept l.interval q d
    → used_with l.interval d.grid d.key kept ≡ used_by l kept o
used_is l kept q o d h v = by d.key v.parts where
  back : arc_value q.asked ≡ o.asked
  back = sym h.asked

  grid : d.grid ≡ o.asked.query.grid
  grid = v.grid ∙ ap (λ (a : Asked). a.query.grid) back

  by : (k : Option Key) → IsDividedBy kept l.interval q d.found k → used_with l.interval d.grid k kept ≡ used_by l kept o
  by None p =
      let once : o.asked.instant ≡ true = ap (λ (a : Asked). a.instant) h.asked ∙ p.0 in
      sym (ap (λ (b : Bool). cond b kept (touched_over (key_in o 0) (pieces_in l o) kept)) once)
  by (Some k) p =
      let ranged : o.asked.instant ≡ false = ap (λ (a : Asked). a.instant) h.asked ∙ p.0 in
      touched_alike (key_by q) k (pieces_by l.interval d.grid) kept p.1.one
      ∙ (λ i. touched_over (key_is (rules_of l) q o h i) (pieces_by l.interval (grid i)) kept)
      ∙ sym (ap (λ (b : Bool). cond b kept (touched_over (key_in o 0) (pieces_in l o) kept)) ranged)
