-- Accepted series with their ids: each id is that of a series, which has these labels.
use Rattle.std.proofs.Common.{◌≡◌, ℕ, suc, ◌+◌, ◌<◌, ◌≤◌, Bool, true, false, cond, List, [], ◌∷◌, length, refl, sym, ap, ◌∙◌, arith}
use Rattle.std.specs.List.{All}
use Rattle.std.specs.Cmp.{IsTotalOrder, then_total, on_total, nat_cmp_total}
use Rattle.std.proofs.lemmas.List.Elements.{All-cons, All-head, All-map, All-nil, All-tail}
use Rattle.pf_base.specs.LabelSets.{Pairs}
use Rattle.pf_base.specs.LabelOrder.{labels_total}
use Rattle.pf_base.specs.Sorting.{isort}
use Rattle.pf_base.proofs.Sorting.{All-ins}
use Rattle.pf_model.specs.declared.expr.Matcher.{Matcher}
use Rattle.pf_model.specs.Binding.{accepted_from, accepted_ids, accepted_of, series_cmp}
use Rattle.pf_model.specs.Selection.{accepts}
use Rattle.pf_index.specs.Listing.{entries_at, ids_of, labels_at}

abbrev Entry : Type 0
Entry = Pairs × ℕ

series_total : IsTotalOrder series_cmp
series_total = then_total (on_total (λ (e : Entry). e.0) labels_total) (on_total (λ (e : Entry). e.1) nat_cmp_total)

-- ---- the ids of accepted series

abbrev IsIn : ℕ → Entry → Type 0
IsIn n e = e.1 < n

within_by : (n first : ℕ) (l : Pairs) (b : Bool) (es : List Entry) → first < n → All (IsIn n) es → All (IsIn n) (cond b ((l, first) ∷ es) es)
within_by n first l true es h a = All-cons (IsIn n) (l, first) es h a
within_by n first l false es h a = a

within_from : (n first : ℕ) (ms : List Matcher) (ls : List Pairs) → first + length ls ≤ n → All (IsIn n) (accepted_from first ms ls)
within_from n first ms [] h = All-nil (IsIn n)
within_from n first ms (l ∷ ls) h =
    within_by n first l (accepts ms l) (accepted_from (first + 1) ms ls) (omega (arith, h)) (within_from n (first + 1) ms ls (omega (arith, h)))

within_sorted : (n : ℕ) (es : List Entry) → All (IsIn n) es → All (IsIn n) (isort series_cmp es)
within_sorted n [] a = a
within_sorted n (e ∷ es) a =
    All-ins series_cmp series_total (IsIn n) e (isort series_cmp es) (All-head (IsIn n) e es a) (within_sorted n es (All-tail (IsIn n) e es a))

-- each is the id of a series
pub ids_within : (ms : List Matcher) (ls : List Pairs) → All (λ id. id < length ls) (accepted_ids ms ls)
ids_within ms ls =
    All-map (λ id. id < length ls) (λ (e : Entry). e.1) (isort series_cmp (accepted_of ms ls))
    (within_sorted (length ls) (accepted_of ms ls) (within_from (length ls) 0 ms ls (omega arith)))

pub accepted_within : (ms : List Matcher) (ls : List Pairs) → All (λ id. id < length ls) (ids_of (accepted_of ms ls))
accepted_within ms ls = All-map (λ id. id < length ls) (λ (e : Entry). e.1) (accepted_of ms ls) (within_from (length ls) 0 ms ls (omega arith))

-- the label sets stand in a list from a place on
abbrev pub StandFrom : ℕ → List Pairs → List Pairs → Type 0
StandFrom first all ls = (k : ℕ) → k < length ls → labels_at all (first + k) ≡ labels_at ls k

pub stand_all : (all : List Pairs) → StandFrom 0 all all
stand_all all k h = ap (labels_at all) (let e : 0 + k ≡ k = omega arith in e)

pub stand_first : (all : List Pairs) (first : ℕ) (l : Pairs) (ls : List Pairs) → StandFrom first all (l ∷ ls) → labels_at all first ≡ l
stand_first all first l ls s = ap (labels_at all) (let e : first ≡ first + 0 = omega arith in e) ∙ s 0 (omega arith)

pub stand_on : (all : List Pairs) (first : ℕ) (l : Pairs) (ls : List Pairs) → StandFrom first all (l ∷ ls) → StandFrom (first + 1) all ls
stand_on all first l ls s k h = ap (labels_at all) (let e : (first + 1) + k ≡ first + suc k = omega arith in e) ∙ s (suc k) (omega (arith, h))

entries_by : (all : List Pairs) (first : ℕ) (l : Pairs) (es : List Entry) (b : Bool) → labels_at all first ≡ l → es ≡ entries_at all (ids_of es) → cond b ((l, first) ∷ es) es ≡ entries_at all (ids_of (cond b ((l, first) ∷ es) es))
entries_by all first l es true e h = λ i. (sym e i, first) ∷ h i
entries_by all first l es false e h = h

entries_on : (ms : List Matcher) (all : List Pairs) (first : ℕ) (ls : List Pairs) → StandFrom first all ls → accepted_from first ms ls ≡ entries_at all (ids_of (accepted_from first ms ls))
entries_on ms all first [] s = refl
entries_on ms all first (l ∷ ls) s =
    entries_by all first l (accepted_from (first + 1) ms ls) (accepts ms l) (stand_first all first l ls s) (entries_on ms all (first + 1) ls (stand_on all first l ls s))

pub accepted_entries : (ms : List Matcher) (ls : List Pairs) → accepted_of ms ls ≡ entries_at ls (ids_of (accepted_of ms ls))
accepted_entries ms ls = entries_on ms ls 0 ls (stand_all ls)
