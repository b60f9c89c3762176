-- What shards know of groups, as pairs of a key and a partial: this project's own, after Mimir's query sharding.
use Rattle.std.specs.Prelude.{◌≡◌, ◌+◌, ◌<◌, ◌≤◌, ◌+ℤ◌, true, List, unsigned_abs, FitsSigned}
use Rattle.std.specs.Int.{w128}
use Rattle.pf_base.specs.declared.plain.Partial.{Partial}
use Rattle.pf_base.specs.LabelSets.{Pairs}
use Rattle.pf_model.specs.Lists.{Each}
use Rattle.pf_model.specs.Selection.{same_labels}

-- their sums and their numbers add up within their types
abbrev pub Fit : Partial → Partial → Type 0
Fit a b = FitsSigned w128 (a.sum +ℤ b.sum) × (a.count + b.count < 18446744073709551616)

-- those of equal keys do
abbrev pub AddUp : List (Pairs × Partial) → List (Pairs × Partial) → Type 0
AddUp ps qs = Each (λ p. Each (λ q. same_labels p.0 q.0 ≡ true → Fit p.1 q.1) qs) ps

-- sums and numbers that add up whatever the other ones are of this kind
abbrev pub IsSmall : Partial → Type 0
IsSmall p = (unsigned_abs p.sum ≤ 85070591730234615865843651857942052863) × (p.count ≤ 9223372036854775807)

abbrev pub AreSmall : List (Pairs × Partial) → Type 0
AreSmall ps = Each (λ p. IsSmall p.1) ps
