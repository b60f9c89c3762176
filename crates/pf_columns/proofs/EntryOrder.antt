-- The order of entries is total, and equal in it are only equal entries.
use Rattle.std.proofs.Common.{◌≡◌}
use Rattle.std.specs.Cmp.{IsTotalOrder}
use Rattle.std.specs.Ordering.{int_cmp, nat_cmp, ordering_then}
use Rattle.std.specs.declared.cmp.Ordering.{Ordering}
use Rattle.std.specs.declared.cmp.Ordering.TheVariants.{Less, Equal, Greater}
use Rattle.std.proofs.lemmas.Cmp.{int_cmp_total, nat_cmp_total, then_total}
use Rattle.std.proofs.lemmas.Map.Lookups.{exact_signed, exact_unsigned}
use Rattle.pf_columns.specs.Ranks.{entry_cmp}
use Rattle.pf_columns.specs.declared.ranked.Entry.{Entry}

by_height : IsTotalOrder {K = Entry} (λ a b. int_cmp a.height b.height)
by_height = record {
  antisymm = λ a b. int_cmp_total.antisymm a.height b.height;
  trans = λ a b c. int_cmp_total.trans a.height b.height c.height;
  congr = λ a b c. int_cmp_total.congr a.height b.height c.height;
}

by_place : IsTotalOrder {K = Entry} (λ a b. nat_cmp a.place b.place)
by_place = record {
  antisymm = λ a b. nat_cmp_total.antisymm a.place b.place;
  trans = λ a b c. nat_cmp_total.trans a.place b.place c.place;
  congr = λ a b c. nat_cmp_total.congr a.place b.place c.place;
}

pub entry_total : IsTotalOrder entry_cmp
entry_total = then_total by_height by_place

first_equal : (a b : Ordering) → ordering_then a b ≡ Equal → a ≡ Equal
first_equal Less b h = h
first_equal Equal b h = λ i. Equal
first_equal Greater b h = h

second_equal : (a b : Ordering) → ordering_then a b ≡ Equal → b ≡ Equal
second_equal Less b h = cc
second_equal Equal b h = h
second_equal Greater b h = cc

pub entry_exact : (a b : Entry) → entry_cmp a b ≡ Equal → a ≡ b
entry_exact a b h =
    let x : a.height ≡ b.height = exact_signed a.height b.height (first_equal (int_cmp a.height b.height) (nat_cmp a.place b.place) h) in
    let y : a.place ≡ b.place = exact_unsigned a.place b.place (second_equal (int_cmp a.height b.height) (nat_cmp a.place b.place) h) in
    λ i. record { height = x i; place = y i }
