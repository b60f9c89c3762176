-- The times of the samples that are read, as an instant selector over samples whose values are their times.
use Rattle.std.proofs.Common.{◌≡◌, ◌<◌, ℕ, zero, suc, ℤ, pos, ◌-ℤ◌, Bool, true, false, cond, ◌&&◌, Option, Some, None, option_map, List, [], ◌∷◌, ◌++◌, map, get_or, refl, sym, ap, ◌∙◌, nat_eq, arith}
use Rattle.std.specs.Prelude.{int_lt}
use Rattle.std.specs.List.{list_all}
use Rattle.std.specs.Ordering.{int_eq}
use Rattle.std.proofs.lemmas.List.{length-map}
use Rattle.std.proofs.lemmas.Bool.Decides.{Decides-int_eq, nat_tests}
use Rattle.pf_base.specs.Limits.{lookback}
use Rattle.pf_base.specs.declared.plain.Row.{Row}
use Rattle.pf_base.specs.declared.plain.Sample.{Sample}
use Rattle.pf_base.specs.LabelSets.{Pairs}
use Rattle.pf_block.specs.Samples.{is_series, is_timed, is_within, last_of, last_onto, rises_after, value_at, window_of}
use Rattle.pf_block.specs.SeriesIds.{id_of}
use Rattle.pf_block.specs.Snaps.{SnapData, IsSnap, held_by, samples_of}
use Rattle.pf_columns.specs.Columns.{cell_at}
use Rattle.pf_model.specs.declared.cell.Element.{Element}
use Rattle.pf_model.specs.declared.expr.Matcher.{Matcher}
use Rattle.pf_model.specs.Binding.{accepted_ids}
use Rattle.pf_model.specs.Cells.{element, without_name}
use Rattle.pf_model.specs.Evaluation.{selected, timed}
use Rattle.pf_model.specs.InstantFunctions.{each_value}
use Rattle.pf_model.specs.Lists.{joined}
use Rattle.pf_model.specs.Log.{held_value}
use Rattle.pf_model.specs.Micros.{seconds}
use Rattle.pf_model.specs.Selection.{same_labels}
use Rattle.pf_store.specs.Standing.{StandsFor}
use Rattle.pf_selectors.specs.SeriesColumns.{read_at, read_column}
use Rattle.pf_selectors.specs.Times.{time_at}
use Rattle.pf_selectors.specs.declared.instant.Reading.TheVariants as reading
use Rattle.pf_selectors.specs.declared.times.Times.{Times}
use Rattle.pf_selectors.proofs.ReadCells.{columns_are, entries, entry_read, selected_is}
use Rattle.pf_selectors.proofs.SeriesOrder.{Entry}

-- a sample whose value is its time, and a snapshot of such
abbrev timed_sample : Sample → Sample
timed_sample x = record { time = x.time; value = seconds x.time }

abbrev timed_snap : SnapData → SnapData
timed_snap s = record { labels = s.labels; samples = map (map timed_sample) s.samples }

-- ---- it is a snapshot

rises_timed : (t : ℤ) (xs : List Sample) → rises_after t (map timed_sample xs) ≡ rises_after t xs
rises_timed t [] = refl
rises_timed t (x ∷ xs) = ap (λ b. int_lt t x.time && b) (rises_timed x.time xs)

all_timed : (xs : List Sample) → list_all is_timed (map timed_sample xs) ≡ list_all is_timed xs
all_timed [] = refl
all_timed (x ∷ xs) = ap (λ b. is_timed x && b) (all_timed xs)

series_timed : (xs : List Sample) → is_series (map timed_sample xs) ≡ is_series xs
series_timed [] = refl
series_timed (x ∷ xs) = λ i. rises_timed x.time xs i && all_timed (x ∷ xs) i

lawful_timed : (xss : List (List Sample)) → list_all is_series (map (map timed_sample) xss) ≡ list_all is_series xss
lawful_timed [] = refl
lawful_timed (xs ∷ xss) = λ i. series_timed xs i && lawful_timed xss i

is_snap : (s : SnapData) → IsSnap s → IsSnap (timed_snap s)
is_snap s h = record {
  apart = h.apart;
  alike = length-map s.samples (map timed_sample) ∙ h.alike;
  lawful = lawful_timed s.samples ∙ h.lawful;
  few = h.few;
}

-- ---- it stands for the samples with their times

value_by : (x : Sample) (z : ℤ) (o : Option ℤ) (b : Bool) → int_eq x.time z ≡ b
    → cond b (Some (seconds x.time)) (option_map (λ v. seconds z) o) ≡ option_map (λ v. seconds z) (cond b (Some x.value) o)
value_by x z o true e = ap (λ t. Some (seconds t)) ((Decides-int_eq x.time z).0 e)
value_by x z o false e = refl

value_timed : (xs : List Sample) (z : ℤ) → value_at (map timed_sample xs) z ≡ option_map (λ v. seconds z) (value_at xs z)
value_timed [] z = refl
value_timed (x ∷ xs) z =
    ap (λ o. cond (int_eq x.time z) (Some (seconds x.time)) o) (value_timed xs z) ∙ value_by x z (value_at xs z) (int_eq x.time z) refl

held_row : (r : Row) (u : ℕ) (o : Option ℤ) (s b : Bool) → nat_eq r.time u ≡ b
    → cond (s && b) (Some (seconds (pos r.time))) (option_map (λ v. seconds (pos u)) o) ≡ option_map (λ v. seconds (pos u)) (cond (s && b) (Some r.value) o)
held_row r u o true true e = let is : r.time ≡ u = grind (arith, nat_tests) in ap (λ n. Some (seconds (pos n))) is
held_row r u o true false e = refl
held_row r u o false b e = refl

held_timed : (rs : List Row) (l : Pairs) (u : ℕ) → held_value (map timed rs) l u ≡ option_map (λ v. seconds (pos u)) (held_value rs l u)
held_timed [] l u = refl
held_timed (r ∷ rs) l u =
    ap (λ o. cond (same_labels r.labels l && nat_eq r.time u) (Some (seconds (pos r.time))) o) (held_timed rs l u)
    ∙ held_row r u (held_value rs l u) (same_labels r.labels l) (nat_eq r.time u) refl

at_timed : (xss : List (List Sample)) (k : ℕ) → get_or (map (map timed_sample) xss) k [] ≡ map timed_sample (get_or xss k [])
at_timed [] k = refl
at_timed (xs ∷ xss) zero = refl
at_timed (xs ∷ xss) (suc k) = at_timed xss k

found_timed : (s : SnapData) (o : Option ℕ) (u : ℕ) → held_by (timed_snap s) o u ≡ option_map (λ v. seconds (pos u)) (held_by s o u)
found_timed s None u = refl
found_timed s (Some k) u = ap (λ xs. value_at xs (pos u)) (at_timed s.samples k) ∙ value_timed (samples_of s k) (pos u)

stands_timed : (s : SnapData) (samples : List Row) → StandsFor s samples → StandsFor (timed_snap s) (map timed samples)
stands_timed s samples h l u =
    found_timed s (id_of l s.labels) u ∙ ap (option_map (λ v. seconds (pos u))) (h l u) ∙ sym (held_timed samples l u)

-- ---- what is read of it

window_by : (x : Sample) (ys : List Sample) (b : Bool) → cond b (timed_sample x ∷ map timed_sample ys) (map timed_sample ys) ≡ map timed_sample (cond b (x ∷ ys) ys)
window_by x ys true = refl
window_by x ys false = refl

window_timed : (xs : List Sample) (a u : ℤ) → window_of (map timed_sample xs) a u ≡ map timed_sample (window_of xs a u)
window_timed [] a u = refl
window_timed (x ∷ xs) a u =
    ap (λ ys. cond (is_within a u x) (timed_sample x ∷ ys) ys) (window_timed xs a u) ∙ window_by x (window_of xs a u) (is_within a u x)

last_timed : (o : Option Sample) (xs : List Sample) → last_onto (option_map timed_sample o) (map timed_sample xs) ≡ option_map timed_sample (last_onto o xs)
last_timed o [] = refl
last_timed o (x ∷ xs) = last_timed (Some x) xs

of_timed : (o : Option Sample) → option_map (λ x. x.value) (option_map timed_sample o) ≡ option_map (λ x. seconds x.time) o
of_timed None = refl
of_timed (Some x) = refl

entry_timed : (s : SnapData) (t : ℤ) (e : Entry) → entry_read (timed_snap s) t e ≡ element e.0 (option_map (λ x. seconds x.time) (read_at (samples_of s e.1) t))
entry_timed s t e =
    let xs = samples_of s e.1 in
    ap (element e.0)
    (ap (λ ys. option_map (λ x. x.value) (read_at ys t)) (at_timed s.samples e.1)
    ∙ ap (λ ys. option_map (λ x. x.value) (last_of ys)) (window_timed xs (t -ℤ pos lookback) t)
    ∙ ap (option_map (λ x. x.value)) (last_timed None (window_of xs (t -ℤ pos lookback) t))
    ∙ of_timed (read_at xs t))

each_by : (l : Pairs) (o : Option ℤ) (es : List Element) → each_value Some (element l o ++ es) ≡ element (without_name l) o ++ each_value Some es
each_by l None es = refl
each_by l (Some v) es = refl

each_timed : (s : SnapData) (t : ℤ) (es : List Entry)
    → each_value Some (joined (entry_read (timed_snap s) t) es) ≡ joined (λ (e : Entry). element (without_name e.0) (option_map (λ x. seconds x.time) (read_at (samples_of s e.1) t))) es
each_timed s t [] = refl
each_timed s t (e ∷ es) =
    ap (λ xs. each_value Some (xs ++ joined (entry_read (timed_snap s) t) es)) (entry_timed s t e)
    ∙ each_by e.0 (option_map (λ x. seconds x.time) (read_at (samples_of s e.1) t)) (joined (entry_read (timed_snap s) t) es)
    ∙ ap (λ xs. element (without_name e.0) (option_map (λ x. seconds x.time) (read_at (samples_of s e.1) t)) ++ xs) (each_timed s t es)

pub times_are : (s : SnapData) (ms : List Matcher) (times : Times) (ids : List ℕ) (k : ℕ) → k < times.len → IsSnap s → (samples : List Row) → StandsFor s samples → ids ≡ accepted_ids ms s.labels
    → cell_at (map (read_column reading.Time s times) ids) k ≡ each_value Some (selected (map timed samples) ms (time_at times k))
times_are s ms times ids k h snap samples stands e =
    columns_are reading.Time s ms times ids k h snap e
    ∙ sym (each_timed s (time_at times k) (entries ms s))
    ∙ ap (each_value Some) (sym (selected_is (timed_snap s) (map timed samples) ms (is_snap s snap) (stands_timed s samples stands) (time_at times k)))
