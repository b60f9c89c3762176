-- What is found, used and kept of pieces, one piece after another.
use Rattle.std.proofs.Common.{◌≡◌, ◌∙◌, ◌⊎◌, ℕ, zero, suc, ◌+◌, ◌/◌, ◌≤◌, ◌<◌, inl, inr, Bool, true, false, not, List, [], ◌∷◌, ◌++◌, append_assoc, append-nil, filter, length, length-append, take, get_or, refl, sym, ap, subst, arith}
use Rattle.std.proofs.Math.Seq.{take-suc}
use Rattle.std.proofs.lemmas.List.Elements.{filter-append}
use Rattle.std.specs.Prelude.{◌==◌}
use Rattle.lru.specs.LruCache.{LruCache}
use Rattle.pf_base.specs.GridLists.{GridData}
use Rattle.pf_base.specs.Grids.{points}
use Rattle.pf_columns.specs.Columns.{timed}
use Rattle.pf_extent.specs.Done.{AreWhole, steps_in}
use Rattle.pf_extent.specs.Steps.{Extents}
use Rattle.pf_extent.specs.declared.done.DoneCells.{DoneCells}
use Rattle.pf_extent.specs.declared.extent.Asker.{Asker}
use Rattle.pf_extent.specs.declared.key.Key.{Key}
use Rattle.pf_journal.specs.Frozen.{KeptCells, KeptSteps}
use Rattle.pf_model.specs.Canonical.{canonical}
use Rattle.pf_model.specs.Direct.{Step}
use Rattle.pf_model.specs.declared.cell.Element.{Element}
use Rattle.pf_model.specs.Lists.{Each}
use Rattle.pf_model.specs.Log.{Rules}
use Rattle.pf_model.specs.Trees.{Tree}
use Rattle.pf_print.specs.OwnTexts.{HasText}
use Rattle.pf_split.specs.Pieces as split
use Rattle.pf_split.specs.Pieces.{pieces_of, put_before}
use Rattle.pf_split.specs.declared.splitting.Piece.{Piece}
use Rattle.pf_results.specs.Entries.{kept_under, put_under, touched}
use Rattle.pf_results.specs.Pieces.{AreEvaluated, AreOfOneQuery, fixed_over, kept_over, kept_with, key_at, key_of, missing_over, served_over, touched_over}
use Rattle.pf_results.specs.Keeping.{extents_of, fixed_count, is_fixed, kept_list}
use Rattle.pf_results.specs.Runs.{lengths, runs_of}
use Rattle.pf_results.specs.Serving.{is_served, served_steps, steps_of}
use Rattle.pf_results.specs.Truth.{AreAllSpaced, AreTrue, IsAsker, IsEvaluated, IsValue, Logs}
use Rattle.pf_results.specs.Woven.{AreWoven, AreWovenIn, done_in, wanted_in}
use Rattle.pf_results.proofs.Growing.{few, values}
use Rattle.pf_results.proofs.Keys.{touched_spaced, touched_true, true_under}
use Rattle.pf_results.proofs.Served.{count_more}
use Rattle.pf_base.proofs.GridTimes.{length-times_from as length_times}

-- ---- keys

pub one_query : (key : Key) → AreOfOneQuery key key
one_query key = record { tenant = refl; text = refl; step = refl }

pub same_key : (old new : Key) (i : ℕ) → AreOfOneQuery old new → key_at new i ≡ key_at old i
same_key old new i s = λ j. record { tenant = s.tenant j; text = s.text j; step = s.step j; interval = i }

-- ---- the pieces of a grid

bool_cases : (b : Bool) → (b ≡ true) ⊎ (b ≡ false)
bool_cases true = inl refl
bool_cases false = inr refl

stepped_before : (length step t : ℕ) (ps : List Piece) → Each (λ (p : Piece). p.run.step ≡ step) ps → Each (λ (p : Piece). p.run.step ≡ step) (put_before length step t ps)
stepped_before length step t [] h = (refl, tt)
stepped_before length step t (p ∷ ps) h = elim (bool_cases (p.interval == t / length)) [
  | inl e ↦ rw e (refl, h.1)
  | inr e ↦ rw e (refl, (h.0, h.1))
]

pub stepped_pieces : (length step : ℕ) (ts : List ℕ) → Each (λ (p : Piece). p.run.step ≡ step) (pieces_of length step ts)
stepped_pieces length step [] = tt
stepped_pieces length step (t ∷ ts) = stepped_before length step t (pieces_of length step ts) (stepped_pieces length step ts)

-- ---- what is found

abbrev missing : LruCache Key Extents → Key → Tree → Asker → Piece → List GridData
missing c key q a p = runs_of p.run.step (λ t. not (is_served (kept_under (key_at key p.interval) c) q a t)) (points p.run)

-- what was found so far, with what is left to be found, is all
pub record IsFoundOver (c : LruCache Key Extents) (key : Key) (q : Tree) (a : Asker) (all left : List Piece) (len : ℕ) (cached : List DoneCells) (runs : List GridData) : Type 0 where
  pub steps : steps_of cached ++ served_over c key q a left ≡ served_over c key q a all
  pub rests : runs ++ missing_over c key q a left ≡ missing_over c key q a all
  pub whole : AreWhole cached
  pub count : steps_in cached + lengths runs + length (split.steps_of left) ≡ len
  pub woven : (ds : List DoneCells) (rs : List GridData) → AreWoven left ds rs → AreWoven all (cached ++ ds) (runs ++ rs)
  pub stepped : Each (λ (p : Piece). p.run.step ≡ key.step) left

module _ (c : LruCache Key Extents) (key : Key) (q : Tree) (a : Asker) where
  pub over_none : (interval : ℕ) (grid : GridData) → key.step ≡ grid.step → split.steps_of (pieces_of interval grid.step (points grid)) ≡ points grid
      → (left : List Piece) → left ≡ pieces_of interval grid.step (points grid) → (ds : List DoneCells) (rs : List GridData) → ds ≡ [] → rs ≡ []
      → IsFoundOver c key q a (pieces_of interval grid.step (points grid)) left grid.len ds rs
  over_none interval grid step steps left is ds rs no_ds no_rs =
      let all : List Piece = pieces_of interval grid.step (points grid) in
      let many : length (split.steps_of all) ≡ grid.len = ap length steps ∙ length_times grid.start grid.step grid.len in
      subst (λ (xs : List DoneCells). IsFoundOver c key q a all left grid.len xs rs) (sym no_ds)
      (subst (λ (xs : List GridData). IsFoundOver c key q a all left grid.len [] xs) (sym no_rs)
      (subst (λ (ps : List Piece). IsFoundOver c key q a all ps grid.len [] []) (sym is) (record {
        steps = refl;
        rests = refl;
        whole = tt;
        count = omega (arith, many);
        woven = λ xs ys h. h;
        stepped = subst (λ n. Each (λ (p : Piece). p.run.step ≡ n) all) (sym step) (stepped_pieces interval grid.step (points grid));
      })))

  module _ (all before left : List Piece) (p : Piece) (len : ℕ) (ds more : List DoneCells) (rs mores : List GridData) where
    pub over_more : (k : Key) → IsFoundOver c key q a all before len ds rs → before ≡ p ∷ left → k ≡ key_at key p.interval
        → steps_of more ≡ steps_of ds ++ served_steps (kept_under k c) q a (points p.run)
        → AreWhole more
        → mores ≡ rs ++ runs_of p.run.step (λ t. not (is_served (kept_under k c) q a t)) (points p.run)
        → steps_in more + lengths mores ≡ steps_in ds + lengths rs + p.run.len
        → AreWovenIn p.run ds rs more mores
        → IsFoundOver c key q a all left len more mores
    over_more k was next at steps whole rests count woven =
        let f : IsFoundOver c key q a all (p ∷ left) len ds rs = subst (λ (ps : List Piece). IsFoundOver c key q a all ps len ds rs) next was in
        let served = served_steps (kept_under (key_at key p.interval) c) q a (points p.run) in
        let steps_here : steps_of more ≡ steps_of ds ++ served =
        subst (λ (x : Key). steps_of more ≡ steps_of ds ++ served_steps (kept_under x c) q a (points p.run)) at steps in
        let rests_here : mores ≡ rs ++ missing c key q a p =
        subst (λ (x : Key). mores ≡ rs ++ runs_of p.run.step (λ t. not (is_served (kept_under x c) q a t)) (points p.run)) at rests in
        let were = f.count in
        let many = length-append (points p.run) (split.steps_of left) in
        let own = length_times p.run.start p.run.step p.run.len in
        record {
          steps = ap (λ (ss : List Step). ss ++ served_over c key q a left) steps_here
              ∙ append_assoc (steps_of ds) served (served_over c key q a left) ∙ f.steps;
          rests = ap (λ (xs : List GridData). xs ++ missing_over c key q a left) rests_here
              ∙ append_assoc rs (missing c key q a p) (missing_over c key q a left) ∙ f.rests;
          whole = whole;
          count = omega (arith, were, many, own, count);
          woven = λ xs ys h.
              let own : List DoneCells = done_in woven.spans in
              let wants : List GridData = wanted_in woven.spans in
              subst (λ (zs : List DoneCells). AreWoven all zs (mores ++ ys))
              (sym (ap (λ (zs : List DoneCells). zs ++ xs) woven.done_are ∙ append_assoc ds own xs))
              (subst (λ (zs : List GridData). AreWoven all (ds ++ (own ++ xs)) zs)
              (sym (ap (λ (zs : List GridData). zs ++ ys) woven.wanted_are ∙ append_assoc rs wants ys))
              (f.woven (own ++ xs) (wants ++ ys) (woven.spans, xs, ys, woven.woven, refl, refl, h)));
          stepped = f.stepped.1;
        }

  -- no piece is left
  module _ (all left : List Piece) (len : ℕ) (ds : List DoneCells) (rs : List GridData) (was : IsFoundOver c key q a all left len ds rs) (none : left ≡ []) where
    over_last : IsFoundOver c key q a all [] len ds rs
    over_last = subst (λ (ps : List Piece). IsFoundOver c key q a all ps len ds rs) none was

    pub steps_all : steps_of ds ≡ served_over c key q a all
    steps_all = sym (append-nil (steps_of ds)) ∙ over_last.steps

    pub runs_all : rs ≡ missing_over c key q a all
    runs_all = sym (append-nil rs) ∙ over_last.rests

    pub count_all : steps_in ds + lengths rs ≡ len
    count_all = let e = over_last.count in omega (arith, e)

    pub woven_all : AreWoven all ds rs
    woven_all =
        subst (λ (xs : List DoneCells). AreWoven all xs rs) (append-nil ds)
        (subst (λ (xs : List GridData). AreWoven all (ds ++ []) xs) (append-nil rs) (over_last.woven [] [] (refl, refl)))

  each_append : (P : Step → Type 0) (xs ys : List Step) → Each P xs → Each P ys → Each P (xs ++ ys)
  each_append P [] ys h k = k
  each_append P (x ∷ xs) ys h k = (h.0, each_append P xs ys h.1 k)

  pub values_over : KeptCells → (rules : Rules) (interval : ℕ) (logs : Logs) → AreTrue rules interval logs c.entries → IsAsker rules (logs key.tenant) a → HasText q
      → canonical q ≡ key.text → (ps : List Piece) → Each (IsValue rules (logs key.tenant) a q) (served_over c key q a ps)
  values_over kept rules interval logs h asker w text [] = tt
  values_over kept rules interval logs h asker w text (p ∷ ps) =
      let own : Key = key_at key p.interval in
      each_append (IsValue rules (logs key.tenant) a q) (served_steps (kept_under own c) q a (points p.run)) (served_over c key q a ps)
      (values kept rules interval (logs key.tenant) own (kept_under own c) a q w text (true_under rules interval logs c own h) asker (points p.run))
      (values_over kept rules interval logs h asker w text ps)

  -- at most the fixed steps are served
  pub few_over : KeptSteps → (rules : Rules) (interval : ℕ) (logs : Logs) → AreTrue rules interval logs c.entries → IsAsker rules (logs key.tenant) a → HasText q
      → canonical q ≡ key.text → (ps : List Piece) → length (served_over c key q a ps) ≤ length (filter (is_fixed q a) (split.steps_of ps))
  few_over steps rules interval logs h asker w text [] = omega arith
  few_over steps rules interval logs h asker w text (p ∷ ps) =
      let own : Key = key_at key p.interval in
      let here = few steps rules interval (logs key.tenant) own (kept_under own c) a q w text (true_under rules interval logs c own h) asker (points p.run) in
      let rest = few_over steps rules interval logs h asker w text ps in
      let all = length-append (served_steps (kept_under own c) q a (points p.run)) (served_over c key q a ps) in
      let both = ap length (filter-append (is_fixed q a) (points p.run) (split.steps_of ps))
      ∙ length-append (filter (is_fixed q a) (points p.run)) (filter (is_fixed q a) (split.steps_of ps)) in
      omega (arith, here, rest, all, both)

-- how many steps cells are of
timed_many : (ts : List ℕ) (cells : List (List Element)) → length cells ≡ length ts → length (timed ts cells) ≡ length ts
timed_many [] cells h = refl
timed_many (t ∷ ts) [] h = absurd (omega (arith, h))
timed_many (t ∷ ts) (c ∷ cells) h = ap suc (timed_many ts cells (omega (arith, h)))

pub steps_many : (ds : List DoneCells) → AreWhole ds → length (steps_of ds) ≡ steps_in ds
steps_many [] h = refl
steps_many (d ∷ ds) h =
    let own = length_times d.run.start d.run.step d.run.len in
    let here = timed_many (points d.run) d.cells (h.0 ∙ sym own) in
    let rest = steps_many ds h.1 in
    let all = length-append (timed (points d.run) d.cells) (steps_of ds) in
    omega (arith, own, here, rest, all)

-- cells that are found are of at most the fixed steps
pub few_found : (c : LruCache Key Extents) (key : Key) (q : Tree) (a : Asker) → KeptSteps → (rules : Rules) (interval : ℕ) (logs : Logs) → AreTrue rules interval logs c.entries
    → IsAsker rules (logs key.tenant) a → HasText q → canonical q ≡ key.text → (ps : List Piece) (ts : List ℕ) → split.steps_of ps ≡ ts
    → (ds : List DoneCells) → AreWhole ds → steps_of ds ≡ served_over c key q a ps → steps_in ds ≤ length (filter (is_fixed q a) ts)
few_found c key q a steps rules interval logs h asker w text ps ts all ds whole served =
    let few = few_over c key q a steps rules interval logs h asker w text ps in
    let many = steps_many ds whole in
    let same = ap (λ (ss : List Step). length ss) served in
    let of_all = ap (λ (xs : List ℕ). length (filter (is_fixed q a) xs)) all in
    omega (arith, few, many, same, of_all)

-- ---- what is used

pub touched_all_spaced : (key : Key) (ps : List Piece) (c : LruCache Key Extents) → AreAllSpaced c.entries → AreAllSpaced (touched_over key ps c).entries
touched_all_spaced key [] c h = h
touched_all_spaced key (p ∷ ps) c h = touched_all_spaced key ps (touched (key_at key p.interval) c) (touched_spaced c (key_at key p.interval) h)

pub touched_all_true : (rules : Rules) (interval : ℕ) (logs : Logs) (key : Key) (ps : List Piece) (c : LruCache Key Extents) → AreTrue rules interval logs c.entries
    → AreTrue rules interval logs (touched_over key ps c).entries
touched_all_true rules interval logs key [] c h = h
touched_all_true rules interval logs key (p ∷ ps) c h =
    touched_all_true rules interval logs key ps (touched (key_at key p.interval) c) (touched_true rules interval logs c (key_at key p.interval) h)

module _ (key : Key) (before left : List Piece) (c new : LruCache Key Extents) where
  pub touched_next : (k : Key) (p : Piece) → before ≡ p ∷ left → k ≡ key_at key p.interval → new ≡ touched k c
      → touched_over key left new ≡ touched_over key before c
  touched_next k p next at is =
      ap (touched_over key left) (is ∙ ap (λ (x : Key). touched x c) at) ∙ ap (λ (ps : List Piece). touched_over key ps c) (sym next)

pub touched_all : (key : Key) (all left : List Piece) (old now : LruCache Key Extents) → touched_over key left now ≡ touched_over key all old → left ≡ []
    → now ≡ touched_over key all old
touched_all key all left old now was none = ap (λ (ps : List Piece). touched_over key ps now) (sym none) ∙ was

-- ---- what is kept

pub kept_more : (key : Key) (q : Tree) (a : Asker) (interval : ℕ) (ds : List DoneCells) (d : DoneCells) (c : LruCache Key Extents)
    → kept_over key q a interval (ds ++ d ∷ []) c ≡ kept_with key q a interval d (kept_over key q a interval ds c)
kept_more key q a interval [] d c = refl
kept_more key q a interval (x ∷ ds) d c = kept_more key q a interval ds d (kept_with key q a interval x c)

pub fixed_more : (q : Tree) (a : Asker) (ds : List DoneCells) (d : DoneCells) → fixed_over q a (ds ++ d ∷ []) ≡ fixed_over q a ds + fixed_count q a d.run
fixed_more q a [] d = omega arith
fixed_more q a (x ∷ ds) d = let e = fixed_more q a ds d in omega (arith, e)

taken : (ds : List DoneCells) (i : ℕ) → i < length ds → steps_in (take (suc i) ds) ≤ steps_in ds
taken [] i h = absurd (omega (arith, h))
taken (d ∷ ds) zero h = omega arith
taken (d ∷ ds) (suc i) h = let e = taken ds i (omega (arith, h)) in omega (arith, e)

each_at : {X : Type 0} (P : X → Type 0) (xs : List X) (i : ℕ) (d : X) → i < length xs → Each P xs → P (get_or xs i d)
each_at P [] i d h e = absurd (omega (arith, h))
each_at P (x ∷ xs) zero d h e = e.0
each_at P (x ∷ xs) (suc i) d h e = each_at P xs i d (omega (arith, h)) e.1

-- what was kept so far
pub record IsKeptOver (c : LruCache Key Extents) (key : Key) (q : Tree) (a : Asker) (interval : ℕ) (cells : List DoneCells) (now : LruCache Key Extents) (steps i : ℕ) : Type 0 where
  pub now_is : now ≡ kept_over key q a interval (take i cells) c
  pub count : steps ≡ fixed_over q a (take i cells)
  pub few : steps ≤ steps_in (take i cells)
  pub true_still : (rules : Rules) (logs : Logs) → AreTrue rules interval logs c.entries → HasText q → canonical q ≡ key.text
      → AreEvaluated rules interval logs key a q cells → AreTrue rules interval logs now.entries

module _ (c : LruCache Key Extents) (key : Key) (q : Tree) (a : Asker) (interval : ℕ) (cells : List DoneCells) where
  pub kept_none : IsKeptOver c key q a interval cells c 0 0
  kept_none = record { now_is = refl; count = refl; few = omega arith; true_still = λ rules logs h w t e. h }

  module _ (now new : LruCache Key Extents) (steps n i : ℕ) (d : DoneCells) (f : IsKeptOver c key q a interval cells now steps i) (h : i < length cells)
      (is : d ≡ get_or cells i d) where
    front : take (suc i) cells ≡ take i cells ++ d ∷ []
    front = take-suc cells i d h ∙ ap (λ (x : DoneCells). take i cells ++ x ∷ []) (sym is)

    pub fits : steps_in cells ≤ 11001 → n ≤ d.run.len → steps + n ≤ 11001
    fits all few =
        let t = taken cells i h in
        let e = ap steps_in front ∙ count_more (take i cells) d in
        let before = f.few in omega (arith, t, e, before, all, few)

    pub kept_one : (k : Key) (j : ℕ) → k ≡ key_of key interval d → j ≡ suc i
        → new ≡ put_under k (kept_list (kept_under k now) (extents_of q a d.run d.cells (points d.run))) now
        → n ≡ fixed_count q a d.run → n ≤ d.run.len
        → ((rules : Rules) (interval : ℕ) (logs : Logs) → AreTrue rules interval logs now.entries → HasText q → canonical q ≡ k.text
        → IsEvaluated rules interval (logs k.tenant) k a q d.run d.cells → AreTrue rules interval logs new.entries)
        → IsKeptOver c key q a interval cells new (steps + n) j
    kept_one k j at next new_at n_is few still_at =
        let new_is : new ≡ kept_with key q a interval d now =
        subst (λ (x : Key). new ≡ put_under x (kept_list (kept_under x now) (extents_of q a d.run d.cells (points d.run))) now) at new_at in
        let still =
        subst (λ (x : Key). (rules : Rules) (interval : ℕ) (logs : Logs) → AreTrue rules interval logs now.entries → HasText q → canonical q ≡ x.text
        → IsEvaluated rules interval (logs x.tenant) x a q d.run d.cells → AreTrue rules interval logs new.entries) at still_at in
        let e = ap steps_in front ∙ count_more (take i cells) d in
        let before = f.few in
        let fixed = ap (fixed_over q a) front ∙ fixed_more q a (take i cells) d in
        let were = f.count in
        subst (λ m. IsKeptOver c key q a interval cells new (steps + n) m) (sym next) (record {
          now_is = new_is ∙ ap (kept_with key q a interval d) f.now_is ∙ sym (kept_more key q a interval (take i cells) d c)
              ∙ ap (λ (ds : List DoneCells). kept_over key q a interval ds c) (sym front);
          count = omega (arith, n_is, were, fixed);
          few = omega (arith, e, before, few);
          true_still = λ rules logs t w text all. still rules interval logs (f.true_still rules logs t w text all) w text
              (subst (λ (x : DoneCells). IsEvaluated rules interval (logs key.tenant) (key_of key interval x) a q x.run x.cells) (sym is)
              (each_at (λ (x : DoneCells). IsEvaluated rules interval (logs key.tenant) (key_of key interval x) a q x.run x.cells) cells i d h all));
        })
