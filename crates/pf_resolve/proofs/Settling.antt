-- A query with its range put in has nothing left to put in, and one that has nothing to put in stays.
use Rattle.std.proofs.Common.{◌≡◌, ℕ, Bool, true, ◌&&◌, Option, Some, None, is_some, refl, ap, ◌∙◌}
use Rattle.std.specs.Cmp.{first_so, second_so}
use Rattle.pf_model.specs.declared.expr.At.{At}
use Rattle.pf_model.specs.declared.expr.At.TheVariants as at
use Rattle.pf_model.specs.declared.expr.Mods.{Mods}
use Rattle.pf_model.specs.Evaluation.{resolution_or_minute}
use Rattle.pf_model.specs.Resolving.{all_resolved, resolved, resolved_at, resolved_mods}
use Rattle.pf_model.specs.Trees as tree
use Rattle.pf_model.specs.Trees.{Tree, Trees}
use Rattle.pf_resolve.specs.Settled.{are_settled, is_settled, is_settled_at}

both : (a b : Bool) → a ≡ true → b ≡ true → (a && b) ≡ true
both a b p q = λ i. p i && q i

settled_at : (start end : ℕ) (a : Option At) → is_settled_at (resolved_at start end a) ≡ true
settled_at start end None = refl
settled_at start end (Some (at.Time millis)) = refl
settled_at start end (Some at.Start) = refl
settled_at start end (Some at.End) = refl

same_at : (start end : ℕ) (a : Option At) → is_settled_at a ≡ true → resolved_at start end a ≡ a
same_at start end None h = refl
same_at start end (Some (at.Time millis)) h = refl
same_at start end (Some at.Start) h = cc
same_at start end (Some at.End) h = cc

same_mods : (start end : ℕ) (mods : Mods) → is_settled_at mods.at ≡ true → resolved_mods start end mods ≡ mods
same_mods start end mods h = λ i. record { at = same_at start end mods.at h i; offset = mods.offset }

same_resolution : (resolution : Option ℕ) → is_some resolution ≡ true → Some (resolution_or_minute resolution) ≡ resolution
same_resolution None h = cc
same_resolution (Some millis) h = refl

mutual
  pub settled : (start end : ℕ) (t : Tree) → is_settled (resolved start end t) ≡ true
  settled start end (tree.number v) = refl
  settled start end (tree.text bytes) = refl
  settled start end (tree.unary minus arg) = settled start end arg
  settled start end (tree.binary op m a b) = both (is_settled (resolved start end a)) (is_settled (resolved start end b)) (settled start end a) (settled start end b)
  settled start end (tree.call f args) = all_settled start end args
  settled start end (tree.aggregate op g args) = all_settled start end args
  settled start end (tree.select ms range mods) = settled_at start end mods.at
  settled start end (tree.subquery arg range resolution mods) =
      both (is_settled (resolved start end arg)) (is_settled_at (resolved_at start end mods.at)) (settled start end arg) (settled_at start end mods.at)

  all_settled : (start end : ℕ) (ts : Trees) → are_settled (all_resolved start end ts) ≡ true
  all_settled start end tree.none = refl
  all_settled start end (tree.more t ts) =
      both (is_settled (resolved start end t)) (are_settled (all_resolved start end ts)) (settled start end t) (all_settled start end ts)

mutual
  pub same : (start end : ℕ) (t : Tree) → is_settled t ≡ true → resolved start end t ≡ t
  same start end (tree.number v) h = refl
  same start end (tree.text bytes) h = refl
  same start end (tree.unary minus arg) h = ap (tree.unary minus) (same start end arg h)
  same start end (tree.binary op m a b) h =
      ap (λ x. tree.binary op m x (resolved start end b)) (same start end a (first_so (is_settled a) (is_settled b) h))
      ∙ ap (tree.binary op m a) (same start end b (second_so (is_settled a) (is_settled b) h))
  same start end (tree.call f args) h = ap (tree.call f) (all_same start end args h)
  same start end (tree.aggregate op g args) h = ap (tree.aggregate op g) (all_same start end args h)
  same start end (tree.select ms range mods) h = ap (tree.select ms range) (same_mods start end mods h)
  same start end (tree.subquery arg range resolution mods) h =
      let rest = second_so (is_settled arg) (is_some resolution && is_settled_at mods.at) h in
      ap (λ x. tree.subquery x range (Some (resolution_or_minute resolution)) (resolved_mods start end mods))
      (same start end arg (first_so (is_settled arg) (is_some resolution && is_settled_at mods.at) h))
      ∙ ap (λ r. tree.subquery arg range r (resolved_mods start end mods)) (same_resolution resolution (first_so (is_some resolution) (is_settled_at mods.at) rest))
      ∙ ap (tree.subquery arg range resolution) (same_mods start end mods (second_so (is_some resolution) (is_settled_at mods.at) rest))

  all_same : (start end : ℕ) (ts : Trees) → are_settled ts ≡ true → all_resolved start end ts ≡ ts
  all_same start end tree.none h = refl
  all_same start end (tree.more t ts) h =
      ap (λ x. tree.more x (all_resolved start end ts)) (same start end t (first_so (is_settled t) (are_settled ts) h))
      ∙ ap (tree.more t) (all_same start end ts (second_so (is_settled t) (are_settled ts) h))

-- putting a range in twice is putting the first one in
pub once : (start end from to : ℕ) (t : Tree) → resolved from to (resolved start end t) ≡ resolved start end t
once start end from to t = same from to (resolved start end t) (settled start end t)
