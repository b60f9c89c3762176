-- Accepted series in label order, by their ids.
use Rattle.std.proofs.Common.{◌≡◌, ℕ, ◌+◌, ◌≤◌, ◌&&◌, Bool, true, false, cond, List, [], ◌∷◌, map, refl, ap, ◌∙◌, arith}
use Rattle.std.specs.Prelude.{nat_le}
use Rattle.std.specs.List.{All}
use Rattle.std.proofs.lemmas.Bool.{le-leb}
use Rattle.pf_base.specs.LabelSets.{Pairs}
use Rattle.pf_base.specs.Sorting.{isort}
use Rattle.pf_block.specs.LabelOrders.{in_label_order, rise_from}
use Rattle.pf_block.proofs.OrderedIds.{entries_ordered, rise_above, rise_least}
use Rattle.pf_model.specs.declared.expr.Matcher.{Matcher}
use Rattle.pf_model.specs.Binding.{accepted_from, accepted_ids, accepted_of, series_cmp}
use Rattle.pf_model.specs.Selection.{accepts}
use Rattle.pf_index.specs.Listing.{ids_of}
use Rattle.pf_index.proofs.Entries.{accepted_entries}

abbrev Entry : Type 0
Entry = Pairs × ℕ

-- their order is that of the ids
pub accepted_ordered : (ms : List Matcher) (ls : List Pairs) → accepted_ids ms ls ≡ in_label_order ls (ids_of (accepted_of ms ls))
accepted_ordered ms ls = ap (λ es. map (λ (e : Entry). e.1) (isort series_cmp es)) (accepted_entries ms ls) ∙ entries_ordered ls (ids_of (accepted_of ms ls))

both : (s t : Bool) → s ≡ true → t ≡ true → (s && t) ≡ true
both s t p q = λ i. p i && q i

rise_by : (first : ℕ) (l : Pairs) (es : List Entry) (b : Bool) → rise_from (first + 1) (ids_of es) ≡ true → rise_from first (ids_of (cond b ((l, first) ∷ es) es)) ≡ true
rise_by first l es true h = both (nat_le first first) (rise_from (first + 1) (ids_of es)) (le-leb first first (omega arith)) h
rise_by first l es false h =
    rise_above (first + 1) first (ids_of es) h (λ k d l. let g = rise_least (first + 1) (ids_of es) h k d l in omega (arith, g))

rises_from : (first : ℕ) (ms : List Matcher) (ls : List Pairs) → rise_from first (ids_of (accepted_from first ms ls)) ≡ true
rises_from first ms [] = refl
rises_from first ms (l ∷ ls) = rise_by first l (accepted_from (first + 1) ms ls) (accepts ms l) (rises_from (first + 1) ms ls)

pub accepted_rises : (ms : List Matcher) (ls : List Pairs) → rise_from 0 (ids_of (accepted_of ms ls)) ≡ true
accepted_rises ms ls = rises_from 0 ms ls
