-- Trees that texts derive have canonical texts of their own, and are such trees still once their range is put in.
use Rattle.std.proofs.Common.{◌≡◌, ◌≤◌, ℕ, ◌+◌, max, ap, arith, refl, subst, sym, Option, Some, None, IfSome}
use Rattle.pf_base.specs.Limits.{greatest_time}
use Rattle.pf_lex.proofs.Printable.{can_be_printed}
use Rattle.pf_lex.specs.CanonicalTokens.{ArePrintable, IsMoment, IsPrintable, IsTime}
use Rattle.pf_model.specs.Canonical.{canonical}
use Rattle.pf_model.specs.declared.expr.At.{At}
use Rattle.pf_model.specs.declared.expr.At.TheVariants as at
use Rattle.pf_model.specs.Evaluation.{resolution_or_minute}
use Rattle.pf_model.specs.Grammar.{IsPositive}
use Rattle.pf_model.specs.Resolving.{all_resolved, resolved, resolved_at}
use Rattle.pf_model.specs.Trees as tree
use Rattle.pf_model.specs.Trees.{Tree, Trees, height, heights}
use Rattle.pf_print.specs.OwnTexts.{HaveOwnTexts, KeepTexts}
use Rattle.pf_print.specs.Printed.{IsDerivedBy}
use Rattle.pf_print.proofs.CanonicalDerived.{AreWell, IsWell, canonical_derives, derived_well}
use Rattle.pf_print.proofs.ReadBack.{has_text, only_one}

-- ---- no other tree

pub have_own_texts : HaveOwnTexts
have_own_texts t u h k low same =
    sym (only_one h.0 t u h.1 low (subst (λ x. IsDerivedBy x u) (sym same) (canonical_derives k.0 u k.1)))

-- ---- the range put in

module _ (start end : ℕ) (first : start ≤ greatest_time) (last : end ≤ greatest_time) where
  moment : (a : Option At) → IfSome a IsMoment → IfSome (resolved_at start end a) IsMoment
  moment None h = tt
  moment (Some (at.Time m)) h = h
  moment (Some at.Start) h = first
  moment (Some at.End) h = last

  time : (r : Option ℕ) → IfSome r IsTime → IsTime (resolution_or_minute r)
  time None h = omega arith
  time (Some r) h = h

  positive : (r : Option ℕ) → IfSome r IsPositive → IsPositive (resolution_or_minute r)
  positive None h = refl
  positive (Some r) h = h

  mutual
    printable : (t : Tree) → IsPrintable t → IsPrintable (resolved start end t)
    printable (tree.number v) p = p
    printable (tree.text bytes) p = p
    printable (tree.unary minus e) p = printable e p
    printable (tree.binary op m a b) p = (p.0, p.1, printable a p.2, printable b p.3)
    printable (tree.call f args) p = all_printable args p
    printable (tree.aggregate op g args) p = (p.0, all_printable args p.1)
    printable (tree.select ms range mods) p = (p.0, p.1, (moment mods.at p.2.0, p.2.1))
    printable (tree.subquery e range resolution mods) p = (printable e p.0, p.1, time resolution p.2, (moment mods.at p.3.0, p.3.1))

    all_printable : (ts : Trees) → ArePrintable ts → ArePrintable (all_resolved start end ts)
    all_printable tree.none p = tt
    all_printable (tree.more e es) p = (printable e p.0, all_printable es p.1)

  mutual
    well : (t : Tree) → IsWell t → IsWell (resolved start end t)
    well (tree.number v) w = w
    well (tree.text bytes) w = w
    well (tree.unary minus e) w = well e w
    well (tree.binary op m a b) w = (w.0, w.1, well a w.2, well b w.3)
    well (tree.call f args) w = all_well args w
    well (tree.aggregate op g tree.none) w = absurd w
    well (tree.aggregate op g (tree.more e es)) w = (well e w.0, all_well es w.1)
    well (tree.select ms range mods) w = w
    well (tree.subquery e range resolution mods) w = (well e w.0, w.1, positive resolution w.2)

    all_well : (ts : Trees) → AreWell ts → AreWell (all_resolved start end ts)
    all_well tree.none w = tt
    all_well (tree.more e es) w = (well e w.0, all_well es w.1)

mutual
  same_height : (start end : ℕ) (t : Tree) → height (resolved start end t) ≡ height t
  same_height start end (tree.number v) = refl
  same_height start end (tree.text bytes) = refl
  same_height start end (tree.unary minus arg) = ap (λ n. 1 + n) (same_height start end arg)
  same_height start end (tree.binary op m a b) = λ i. 1 + max (same_height start end a i) (same_height start end b i)
  same_height start end (tree.call f args) = ap (λ n. 1 + n) (same_heights start end args)
  same_height start end (tree.aggregate op g args) = ap (λ n. 1 + n) (same_heights start end args)
  same_height start end (tree.select ms range mods) = refl
  same_height start end (tree.subquery arg range resolution mods) = ap (λ n. 1 + n) (same_height start end arg)

  same_heights : (start end : ℕ) (ts : Trees) → heights (all_resolved start end ts) ≡ heights ts
  same_heights start end tree.none = refl
  same_heights start end (tree.more t ts) = λ i. max (same_height start end t i) (same_heights start end ts i)

pub keep_texts : KeepTexts
keep_texts start end t first last h low =
    let u = resolved start end t in (
      canonical u,
      has_text u (printable start end first last t (can_be_printed h.0 t h.1)) (well start end first last t (derived_well h.0 t h.1))
          (subst (λ n. n ≤ 64) (sym (same_height start end t)) low),
    )
