-- Logs with a further change.
use Rattle.std.proofs.Common.{◌≡◌, ℕ, ◌+◌, ◌<◌, true, false, cond, ◌||◌, List, [], ◌∷◌, ◌++◌, length, refl, sym, ap, ◌∙◌, subst, arith, Option}
use Rattle.std.proofs.lemmas.List.{length_push}
use Rattle.pf_base.specs.declared.plain.Row.{Row}
use Rattle.pf_block.specs.Snaps.{with_rows, without_rows, are_new}
use Rattle.pf_model.specs.declared.expr.Matcher.{Matcher}
use Rattle.pf_model.specs.Log.{Change, Rules, Verdict, Store, append, delete, changed, store_after, store_of, empty_store, floor_below, floor_of, verdicts_on, verdicts_of, taken_rows, is_taken, any_taken, newest_with, log_with, log_without, verdict_on}
use Rattle.pf_store.specs.Standing.{LogData, IsLog, IsAlike, StandsFor, AreAccepted, verdicts_after, deleted_after}
use Rattle.pf_store.specs.Verdicts.{VerdictsData}
use Rattle.pf_store.specs.declared.tenant_log.Deleted.{Deleted}
use Rattle.pf_store.proofs.Snapshots.{stands_with}
use Rattle.pf_store.proofs.Deletions.{stands_without}

after_more : (s : Store) (log : List Change) (c : Change) → store_after s (log ++ c ∷ []) ≡ changed (store_after s log) c
after_more s [] c = refl
after_more s (x ∷ xs) c = after_more (changed s x) xs c

store_more : (rules : Rules) (log : List Change) (c : Change) → store_of rules (log ++ c ∷ []) ≡ changed (store_of rules log) c
store_more rules log c = after_more (empty_store rules) log c

-- ---- whether anything is taken

none_by : (v : Verdict) (r : Row) (rs : List Row) (vs : List Verdict) → cond (is_taken v) (r ∷ taken_rows rs vs) (taken_rows rs vs) ≡ [] → (taken_rows rs vs ≡ [] → any_taken vs ≡ false) → (is_taken v || any_taken vs) ≡ false
none_by v r rs vs h f = elim (is_taken v) as (λ b. cond b (r ∷ taken_rows rs vs) (taken_rows rs vs) ≡ [] → (b || any_taken vs) ≡ false) [ true ↦ (λ e. cc) | false ↦ f ] h

none_taken : (floor : Option ℕ) (xs rows : List Row) → taken_rows rows (verdicts_on floor xs rows) ≡ [] → any_taken (verdicts_on floor xs rows) ≡ false
none_taken floor xs [] h = refl
none_taken floor xs (r ∷ rs) h =
    let v = verdict_on floor xs r in
    let ys = xs ++ cond (is_taken v) (r ∷ []) [] in
    none_by v r rs (verdicts_on floor ys rs) h (none_taken floor ys rs)

some_taken : (rows : List Row) (vs : List Verdict) → 0 < length (taken_rows rows vs) → any_taken vs ≡ true
some_taken [] vs h = absurd (omega arith)
some_taken (r ∷ rs) [] h = absurd (omega arith)
some_taken (r ∷ rs) (v ∷ vs) h =
    elim (is_taken v) as (λ b. 0 < length (cond b (r ∷ taken_rows rs vs) (taken_rows rs vs)) → (b || any_taken vs) ≡ true) [ true ↦ (λ e. refl) | false ↦ some_taken rs vs ] h

-- ---- a batch

module _ (rules : Rules) (d : LogData) (log : List Change) (k : IsLog rules d log) (rows : List Row) where
  pub verdicts_are : (vs : List Verdict) → ((xs : List Row) → StandsFor d.snap xs → vs ≡ verdicts_on (floor_below d.window d.newest) xs rows) → vs ≡ verdicts_of rules log rows
  verdicts_are vs f =
      f (store_of rules log).samples k.samples ∙ (λ i. verdicts_on (floor_below (k.window i) (k.newest i)) (store_of rules log).samples rows)

  pub taken_are : (tk : List Row) → ((xs : List Row) → StandsFor d.snap xs → tk ≡ taken_rows rows (verdicts_on (floor_below d.window d.newest) xs rows)) → tk ≡ taken_rows rows (verdicts_of rules log rows)
  taken_are tk f =
      f (store_of rules log).samples k.samples ∙ (λ i. taken_rows rows (verdicts_on (floor_below (k.window i) (k.newest i)) (store_of rules log).samples rows))

  pub stays : (tk : List Row) → tk ≡ taken_rows rows (verdicts_of rules log rows) → length tk ≡ 0 → IsLog rules d (log_with log rows (verdicts_of rules log rows))
  stays tk e z =
      let n : any_taken (verdicts_of rules log rows) ≡ false =
      none_taken (floor_of rules log) (store_of rules log).samples rows (sym e ∙ nil tk z) in
      subst (λ b. IsLog rules d (cond b (log ++ append rows ∷ []) log)) (sym n) k
    where
      nil : (tk : List Row) → length tk ≡ 0 → tk ≡ []
      nil [] z = refl
      nil (r ∷ rs) z = absurd (omega arith)

  pub grows : (tk : List Row) → tk ≡ taken_rows rows (verdicts_of rules log rows) → 0 < length tk → IsAlike d.snap → are_new d.snap tk ≡ true →
      IsLog rules (record { window = d.window; entries = d.entries + 1; newest = newest_with d.newest tk; generation = d.generation; snap = with_rows d.snap tk }) (log_with log rows (verdicts_of rules log rows))
  grows tk e z a n =
      let s = store_of rules log in
      let vs = verdicts_of rules log rows in
      let x : any_taken vs ≡ true = some_taken rows vs (subst (λ l. 0 < length l) e z) in
      let m = store_more rules log (append rows) in
      let new : LogData = record { window = d.window; entries = d.entries + 1; newest = newest_with d.newest tk; generation = d.generation; snap = with_rows d.snap tk } in
      let it : IsLog rules new (log ++ append rows ∷ []) = record {
        counted = ap (λ n. n + 1) k.counted ∙ sym (length_push log (append rows));
        newest = ap (λ n. newest_with n tk) k.newest ∙ ap (newest_with s.newest) e ∙ sym (ap (λ s. s.newest) m);
        generation = k.generation ∙ sym (ap (λ s. s.generation) m);
        window = k.window ∙ sym (ap (λ s. s.window) m);
        samples = subst (λ l. StandsFor new.snap l) (ap (λ l. s.samples ++ l) e ∙ sym (ap (λ s. s.samples) m)) (stands_with d.snap s.samples tk a n k.samples);
      } in
      subst (λ b. IsLog rules new (cond b (log ++ append rows ∷ []) log)) (sym x) it

  module _ (vs : List Verdict) (tk : List Row) (f : (xs : List Row) → StandsFor d.snap xs → vs ≡ verdicts_on (floor_below d.window d.newest) xs rows)
      (g : (xs : List Row) → StandsFor d.snap xs → tk ≡ taken_rows rows (verdicts_on (floor_below d.window d.newest) xs rows)) where
    pub none_verdicts : length tk ≡ 0 → ◌≡◌ {A = VerdictsData} (record { list = vs; entry = d.entries }) (verdicts_after rules log rows)
    none_verdicts z = let p = verdicts_are vs f in let q = (stays tk (taken_are tk g) z).counted in λ i. record { list = p i; entry = q i }

    pub none_stands : length tk ≡ 0 → IsLog rules d (log_with log rows (verdicts_of rules log rows))
    none_stands z = stays tk (taken_are tk g) z

    pub some_verdicts : 0 < length tk → IsAlike d.snap → are_new d.snap tk ≡ true → ◌≡◌ {A = VerdictsData} (record { list = vs; entry = d.entries + 1 }) (verdicts_after rules log rows)
    some_verdicts z a n = let p = verdicts_are vs f in let q = (grows tk (taken_are tk g) z a n).counted in λ i. record { list = p i; entry = q i }

    pub some_stands : 0 < length tk → IsAlike d.snap → are_new d.snap tk ≡ true →
        IsLog rules (record { window = d.window; entries = d.entries + 1; newest = newest_with d.newest tk; generation = d.generation; snap = with_rows d.snap tk }) (log_with log rows (verdicts_of rules log rows))
    some_stands z a n = grows tk (taken_are tk g) z a n

-- ---- a deletion

pub shrinks : (rules : Rules) (d : LogData) (log : List Change) (ms : List Matcher) (ids : List ℕ) (from to : ℕ) → IsLog rules d log → IsAlike d.snap → AreAccepted ms d.snap ids →
    IsLog rules (record { window = d.window; entries = d.entries + 1; newest = d.newest; generation = d.generation + 1; snap = without_rows d.snap ids from to }) (log_without log ms from to)
shrinks rules d log ms ids from to k a w =
    let m = store_more rules log (delete ms from to) in
    record {
      counted = ap (λ n. n + 1) k.counted ∙ sym (length_push log (delete ms from to));
      newest = k.newest ∙ sym (ap (λ s. s.newest) m);
      generation = ap (λ n. n + 1) k.generation ∙ sym (ap (λ s. s.generation) m);
      window = k.window ∙ sym (ap (λ s. s.window) m);
      samples = subst (λ l. StandsFor (without_rows d.snap ids from to) l) (sym (ap (λ s. s.samples) m)) (stands_without d.snap ms ids from to (store_of rules log).samples a w k.samples);
    }

pub shrinks_deleted : (rules : Rules) (d : LogData) (log : List Change) (ms : List Matcher) (ids : List ℕ) (from to : ℕ) → IsLog rules d log → IsAlike d.snap → AreAccepted ms d.snap ids →
    ◌≡◌ {A = Deleted} (record { generation = d.generation + 1; entry = d.entries + 1 }) (deleted_after rules (log_without log ms from to))
shrinks_deleted rules d log ms ids from to k a w =
    let s = shrinks rules d log ms ids from to k a w in let p = s.generation in let q = s.counted in λ i. record { generation = p i; entry = q i }
