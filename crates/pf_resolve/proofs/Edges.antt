-- The ends of the times that a subquery reads.
use Rattle.std.proofs.Common.{◌≡◌, ℕ, suc, ◌+◌, ◌-◌, ◌<◌, ◌≤◌, ℤ, pos, ◌+ℤ◌, ◌-ℤ◌, ◌*ℤ◌, ◌≤ℤ◌, unsigned_abs, List, length, drop, get_or, map, Option, Some, None, refl, sym, ap, ◌∙◌, arith}
use Rattle.std.proofs.lemmas.Int.{ints}
use Rattle.std.proofs.lemmas.List.{drop_all}
use Rattle.pf_model.specs.Evaluation.{multiples, multiples_behind, read_time}
use Rattle.pf_model.specs.declared.expr.Mods.{Mods}
use Rattle.std.specs.Prelude.{true, IfSome}
use Rattle.pf_resolve.specs.declared.reading.Window.{Window}
use Rattle.pf_model.specs.Micros.{cut_down}
use Rattle.pf_model.specs.Reach.{Times, all_times_read, all_together, times_read, together}
use Rattle.pf_model.specs.declared.expr.Expr.{Expr}
use Rattle.pf_model.specs.Trees.{Tree, Trees, tree_of, trees_of}
use Rattle.std.specs.Int.{int_max, int_min}
use Rattle.pf_resolve.proofs.Walks.{first_left}
use Rattle.pf_resolve.proofs.Windows.{one_window, over_both, over_none, touch}
use Rattle.pf_resolve.specs.declared.reading.End.{End}
use Rattle.pf_resolve.specs.declared.reading.End.TheVariants as end
use Rattle.pf_resolve.specs.Ends.{IsJoined, are_touching, behind, end_in_window, end_of, end_over, end_over_all, farther_of}
use Rattle.pf_resolve.proofs.Multiples.{behind_step, in_steps}
use Rattle.pf_resolve.proofs.Rising.{Rise, ends_tell, read_rises, spanned, times_rise}

pub end_together : (e : End) (a b : Option Times) → end_of e (together a b) ≡ farther_of e (end_of e a) (end_of e b)
end_together end.Earliest None b = refl
end_together end.Latest None b = refl
end_together end.Earliest (Some a) None = refl
end_together end.Latest (Some a) None = refl
end_together end.Earliest (Some a) (Some b) = refl
end_together end.Latest (Some a) (Some b) = refl

-- one multiple more
pub end_step : (e : End) (f : ℤ → Option Times) (s l : ℤ) (k : ℕ)
    → end_of e (all_together (map f (multiples_behind s (l -ℤ pos (k + 1)) (k + 1))))
    ≡ farther_of e (end_of e (f ((l -ℤ pos k) *ℤ s))) (end_of e (all_together (map f (multiples_behind s (l -ℤ pos k) k))))
end_step e f s l k =
    ap (end_of e) (behind_step f s l k) ∙ end_together e (f ((l -ℤ pos k) *ℤ s)) (all_together (map f (multiples_behind s (l -ℤ pos k) k)))

earliest_spanned : (a b : Option Times) → end_of end.Earliest (spanned a b) ≡ end_of end.Earliest a
earliest_spanned None b = refl
earliest_spanned (Some a) None = refl
earliest_spanned (Some a) (Some b) = refl

latest_spanned : (a b : Option Times) → Rise a b → end_of end.Latest (spanned a b) ≡ end_of end.Latest b
latest_spanned None None h = refl
latest_spanned None (Some b) h = elim h [ ]
latest_spanned (Some a) None h = elim h [ ]
latest_spanned (Some a) (Some b) h = refl

one_before : (n : ℕ) → 0 < n → n ≡ suc (n - 1)
one_before n some = omega arith

module _ (f : ℤ → Option Times) (rises : (t u : ℤ) → t ≤ℤ u → Rise (f t) (f u)) where
  at_edge : (e : End) (d n : ℕ) (m : ℤ)
      → end_of e (all_together (map f (multiples_behind (pos d) m (suc n)))) ≡ end_of e (f ((m +ℤ pos (suc n - behind e (suc n))) *ℤ pos d))
  at_edge end.Earliest d n m =
      ap (end_of end.Earliest) (ends_tell f rises d n m)
      ∙ earliest_spanned (f ((m +ℤ pos 1) *ℤ pos d)) (f ((m +ℤ pos (suc n)) *ℤ pos d))
      ∙ ap (λ k. end_of end.Earliest (f ((m +ℤ pos k) *ℤ pos d))) (omega arith)
  at_edge end.Latest d n m =
      ap (end_of end.Latest) (ends_tell f rises d n m)
      ∙ latest_spanned (f ((m +ℤ pos 1) *ℤ pos d)) (f ((m +ℤ pos (suc n)) *ℤ pos d))
      (rises ((m +ℤ pos 1) *ℤ pos d) ((m +ℤ pos (suc n)) *ℤ pos d) (times_rise d (m +ℤ pos 1) (m +ℤ pos (suc n)) (omega (arith, ints))))
      ∙ ap (λ k. end_of end.Latest (f ((m +ℤ pos k) *ℤ pos d))) (omega arith)

  placed : (e : End) (low high : ℤ) (n : ℕ) → low ≤ℤ high → n ≡ unsigned_abs (high -ℤ low) → 0 < n → low +ℤ pos (n - behind e n) ≡ high -ℤ pos (behind e n)
  placed end.Earliest low high n o c some = grind (arith, ints)
  placed end.Latest low high n o c some = grind (arith, ints)

  -- one multiple in a window tells its end
  pub edge_tells : (e : End) (d n : ℕ) (from to : ℤ) → from ≤ℤ to → n ≡ unsigned_abs (cut_down to d -ℤ cut_down from d) → 0 < n
      → end_of e (f ((cut_down to d -ℤ pos (behind e n)) *ℤ pos d)) ≡ end_of e (all_together (map f (multiples d from to)))
  edge_tells e d n from to o c some =
      let low = cut_down from d in
      let high = cut_down to d in
      let one = one_before n some in
      sym (ap (λ k. end_of e (all_together (map f (multiples_behind (pos d) low k)))) (sym c ∙ one)
      ∙ at_edge e d (n - 1) low
      ∙ ap (λ k. end_of e (f ((low +ℤ pos (k - behind e k)) *ℤ pos d))) (sym one)
      ∙ ap (λ x. end_of e (f (x *ℤ pos d))) (placed e low high n (in_steps d from to o) c some))

-- ---- what is read at the multiples of a step

pub none_over : (e : End) (us : List ℤ) → None ≡ end_of e (all_together (map (λ u. None) us))
none_over end.Earliest us = sym (ap (end_of end.Earliest) (over_none us))
none_over end.Latest us = sym (ap (end_of end.Latest) (over_none us))

pub both_over : (e : End) (f g : ℤ → Option Times) (us : List ℤ)
    → farther_of e (end_of e (all_together (map f us))) (end_of e (all_together (map g us))) ≡ end_of e (all_together (map (λ u. together (f u) (g u)) us))
both_over e f g us = sym (ap (end_of e) (over_both f g us) ∙ end_together e (all_together (map f us)) (all_together (map g us)))

pub over_two : (e : End) (left right : Tree) (step : ℕ) (from to : ℤ) (a b : Option ℤ) → a ≡ end_over e left step from to → b ≡ end_over e right step from to
    → farther_of e a b ≡ end_of e (all_together (map (λ u. together (times_read left u) (times_read right u)) (multiples step from to)))
over_two e left right step from to a b p q = (λ i. farther_of e (p i) (q i)) ∙ both_over e (times_read left) (times_read right) (multiples step from to)

min_assoc : (a b c : ℤ) → int_min (int_min a b) c ≡ int_min a (int_min b c)
min_assoc a b c = grind (arith, ints)

max_assoc : (a b c : ℤ) → int_max (int_max a b) c ≡ int_max a (int_max b c)
max_assoc a b c = grind (arith, ints)

farther_assoc : (e : End) (a b c : Option ℤ) → farther_of e (farther_of e a b) c ≡ farther_of e a (farther_of e b c)
farther_assoc e None b c = refl
farther_assoc e (Some a) None c = refl
farther_assoc e (Some a) (Some b) None = refl
farther_assoc end.Earliest (Some a) (Some b) (Some c) = ap Some (min_assoc a b c)
farther_assoc end.Latest (Some a) (Some b) (Some c) = ap Some (max_assoc a b c)

-- one argument more
pub over_left : (args : List Expr) (i : ℕ) (x : Expr) → i < length args → x ≡ get_or args i x → (e : End) (step : ℕ) (from to : ℤ) (before now one : Option ℤ)
    → now ≡ farther_of e before one → one ≡ end_over e (tree_of x) step from to → (all : Option ℤ)
    → farther_of e before (end_over_all e (trees_of (map tree_of (drop i args))) step from to) ≡ all
    → farther_of e now (end_over_all e (trees_of (map tree_of (drop (i + 1) args))) step from to) ≡ all
over_left args i x h is e step from to before now one p q all r =
    let others = trees_of (map tree_of (drop (i + 1) args)) in
    ap (λ o. farther_of e o (end_over_all e others step from to)) (p ∙ ap (farther_of e before) q)
    ∙ farther_assoc e before (end_over e (tree_of x) step from to) (end_over_all e others step from to)
    ∙ ap (farther_of e before) (both_over e (times_read (tree_of x)) (all_times_read others) (multiples step from to))
    ∙ ap (λ ts. farther_of e before (end_over_all e ts step from to)) (sym (first_left args i x h is))
    ∙ r

pub same_over : (e : End) (query : Tree) (step step' : ℕ) (from from' to to' : ℤ) → step ≡ step' → from ≡ from' → to ≡ to'
    → end_over e query step from to ≡ end_over e query step' from' to'
same_over e query step step' from from' to to' p q r = λ i. end_over e query (p i) (q i) (r i)

pub same_over_all : (e : End) (args : Trees) (step : ℕ) (from from' to to' : ℤ) → from ≡ from' → to ≡ to'
    → end_over_all e args step from to ≡ end_over_all e args step from' to'
same_over_all e args step from from' to to' q r = λ i. end_over_all e args step (q i) (r i)

farther_none : (e : End) (a : Option ℤ) → farther_of e a None ≡ a
farther_none e None = refl
farther_none e (Some a) = refl

-- no argument more
pub over_end : (args : List Expr) (i : ℕ) → length args ≤ i → (e : End) (step : ℕ) (from to : ℤ) (found all : Option ℤ)
    → farther_of e found (end_over_all e (trees_of (map tree_of (drop i args))) step from to) ≡ all → found ≡ all
over_end args i h e step from to found all r =
    sym (farther_none e found)
    ∙ ap (farther_of e found) (none_over e (multiples step from to))
    ∙ ap (λ xs. farther_of e found (end_over_all e (trees_of (map tree_of xs)) step from to)) (sym (drop_all i args h))
    ∙ r

-- the windows of a subquery that touch, asked as one
pub joined_over : (e : End) (query : Tree) (mods : Mods) (range s step : ℕ) (from to : ℤ) → from ≤ℤ to → are_touching mods range step ≡ true → (joined : Option Window)
    → (joined ≡ None → unsigned_abs (cut_down to step -ℤ cut_down from step) ≡ 0) → IfSome joined (IsJoined mods range step from to)
    → end_in_window e query s joined
    ≡ end_of e (all_together (map (λ u. all_together (map (times_read query) (multiples s (read_time mods u -ℤ pos range) (read_time mods u)))) (multiples step from to)))
joined_over end.Earliest query mods range s step from to order touching None none some =
    ap (λ n. end_of end.Earliest (all_together (map (λ u. all_together (map (times_read query) (multiples s (read_time mods u -ℤ pos range) (read_time mods u))))
    (multiples_behind (pos step) (cut_down from step) n)))) (sym (none refl))
joined_over end.Latest query mods range s step from to order touching None none some =
    ap (λ n. end_of end.Latest (all_together (map (λ u. all_together (map (times_read query) (multiples s (read_time mods u -ℤ pos range) (read_time mods u))))
    (multiples_behind (pos step) (cut_down from step) n)))) (sym (none refl))
joined_over e query mods range s step from to order touching (Some w) none some =
    (λ i. end_over e query s (some.start i) (some.finish i))
    ∙ ap (end_of e)
    (one_window (times_read query) (read_time mods) range s step (read_rises mods) (touch mods range step touching) (unsigned_abs (cut_down to step -ℤ cut_down from step)) from to order refl some.some)
