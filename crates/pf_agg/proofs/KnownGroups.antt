-- What is known of groups: the values of their elements one after another, and their keys.
use Rattle.std.proofs.Common.{◌≡◌, ◌+◌, ◌<◌, ℕ, zero, suc, ℤ, pos, Bor, List, [], ◌∷◌, map, drop, length, get_or, refl, sym, ap, ◌∙◌, subst, arith}
use Rattle.std.specs.Int.{int_max, int_min}
use Rattle.std.proofs.lemmas.Int.{ints}
use Rattle.std.proofs.lemmas.List.{drop_more}
use Rattle.pf_base.specs.declared.plain.Partial.{Partial}
use Rattle.pf_base.specs.LabelSets.{Pairs}
use Rattle.pf_model.specs.declared.cell.Element.{Element}
use Rattle.pf_model.specs.Aggregation.{group_key}
use Rattle.pf_model.specs.Cells.{distinct, labels_of, values_of}
use Rattle.pf_model.specs.Clauses.{Grouped}
use Rattle.pf_model.specs.Legs.{GroupPart, partial_of, partials}
use Rattle.pf_model.specs.Micros.{greatest, least}
use Rattle.pf_columns.specs.Columns.{AreRising}
use Rattle.pf_columns.proofs.Bounds.{greatest_next, least_next}
use Rattle.pf_columns.proofs.GroupKeys.{distinct_rising}
use Rattle.pf_columns.specs.Partials.{keys_of, parts_of, partials_of}

-- ---- the values of elements

abbrev pub values : List (Bor Element) → List ℤ
values es = values_of (map (λ e. e.now) es)

pub many_values : (es : List (Bor Element)) → length (values es) ≡ length es
many_values [] = refl
many_values (e ∷ es) = ap suc (many_values es)

pub value_at : (es : List (Bor Element)) (i : ℕ) (e : Bor Element) → i < length es → e ≡ get_or es i e → e.now.value ≡ get_or (values es) i e.now.value
value_at [] i e h q = absurd (omega (arith, h))
value_at (x ∷ xs) zero e h q = ap (λ y. y.now.value) q
value_at (x ∷ xs) (suc i) e h q = value_at xs i e (omega (arith, h)) q

min_self : (a : ℤ) → int_min a a ≡ a
min_self a = grind (arith, ints)

max_self : (a : ℤ) → int_max a a ≡ a
max_self a = grind (arith, ints)

-- the first value once more
pub first_lowest : (a : ℤ) (vs : List ℤ) → least (a ∷ a ∷ vs) ≡ least (a ∷ vs)
first_lowest a vs = sym (least_next a a vs) ∙ ap (λ z. least (z ∷ vs)) (min_self a)

pub first_highest : (a : ℤ) (vs : List ℤ) → greatest (a ∷ a ∷ vs) ≡ greatest (a ∷ vs)
first_highest a vs = sym (greatest_next a a vs) ∙ ap (λ z. greatest (z ∷ vs)) (max_self a)

-- one value more
pub lowest_next : (vs : List ℤ) (i : ℕ) (before now v : ℤ) (all : ℤ) → i < length vs → v ≡ get_or vs i v → now ≡ int_min before v
    → least (before ∷ drop i vs) ≡ all → least (now ∷ drop (i + 1) vs) ≡ all
lowest_next vs i before now v all h q n s =
    ap (λ z. least (z ∷ drop (i + 1) vs)) n ∙ least_next before v (drop (i + 1) vs)
    ∙ ap (λ ws. least (before ∷ ws)) (ap (λ z. z ∷ drop (i + 1) vs) q ∙ sym (drop_more vs i v h)) ∙ s

pub highest_next : (vs : List ℤ) (i : ℕ) (before now v : ℤ) (all : ℤ) → i < length vs → v ≡ get_or vs i v → now ≡ int_max before v
    → greatest (before ∷ drop i vs) ≡ all → greatest (now ∷ drop (i + 1) vs) ≡ all
highest_next vs i before now v all h q n s =
    ap (λ z. greatest (z ∷ drop (i + 1) vs)) n ∙ greatest_next before v (drop (i + 1) vs)
    ∙ ap (λ ws. greatest (before ∷ ws)) (ap (λ z. z ∷ drop (i + 1) vs) q ∙ sym (drop_more vs i v h)) ∙ s

pub nothing_known : (es : List (Bor Element)) (a b : ℤ) → length es ≡ 0 → a ≡ pos 0 → b ≡ pos 0
    → record { sum = pos 0; count = 0; least = a; greatest = b } ≡ partial_of (values es)
nothing_known [] a b h p q = λ i. record { sum = pos 0; count = 0; least = p i; greatest = q i }
nothing_known (e ∷ es) a b h p q = absurd (omega (arith, h))

-- ---- keys

part_keys : (ps : List (Pairs × Partial)) → keys_of ps ≡ map (λ (g : GroupPart). g.key) (parts_of ps)
part_keys [] = refl
part_keys (p ∷ ps) = ap (λ ks. p.0 ∷ ks) (part_keys ps)

keys_at : (f : Pairs → List Element) (ks : List Pairs)
    → map (λ (g : GroupPart). g.key) (partials_of (map (λ k. record { key = k; elements = f k }) ks)) ≡ ks
keys_at f [] = refl
keys_at f (k ∷ ks) = ap (λ ls. k ∷ ls) (keys_at f ks)

pub known_rising : (g : Grouped) (es : List Element) (ps : List (Pairs × Partial)) → parts_of ps ≡ partials g es → AreRising (keys_of ps)
known_rising g es ps is =
    let key = group_key g.without g.labels in
    let keys : keys_of ps ≡ distinct (map key (labels_of es)) = part_keys ps ∙ ap (map (λ (q : GroupPart). q.key)) is ∙ keys_at _ _ in
    subst AreRising (sym keys) (distinct_rising (map key (labels_of es)))
