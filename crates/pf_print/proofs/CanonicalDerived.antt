-- The canonical text of a tree that some text derives derives this tree.
use Rattle.std.proofs.Common.{◌≡◌, ◌∙◌, sym, refl, ap, subst, ℕ, zero, suc, ℤ, pos, negsuc, ◌*◌, ◌/◌, Bool, true, false, not, cond, ◌&&◌, List, [], ◌∷◌, Option, Some, None, IfSome, Result, Ok, Err, IfOk, arith, option_map}
use Rattle.std.proofs.lemmas.Bool.{le-leb}
use Rattle.pf_lex.proofs.CanonicalTexts.{canonical_is_cut}
use Rattle.pf_lex.proofs.Fits.{canonical_fits}
use Rattle.pf_lex.proofs.Printable.{can_be_printed}
use Rattle.pf_lex.specs.CanonicalWritten.{all_written, group_written, keys_written, labels_written, mods_written, moment_written, offset_written, written_of}
use Rattle.pf_model.specs.Canonical.{canonical, is_one}
use Rattle.pf_model.specs.Clauses.{Matched}
use Rattle.pf_model.specs.declared.expr.At.{At}
use Rattle.pf_model.specs.declared.expr.At.TheVariants as at
use Rattle.pf_model.specs.declared.expr.Function.{Function}
use Rattle.pf_model.specs.declared.expr.Function.TheVariants as called
use Rattle.pf_model.specs.declared.expr.Side.{Side}
use Rattle.pf_model.specs.declared.expr.Side.TheVariants as side
use Rattle.pf_model.specs.declared.functions.InstantFn.TheVariants as instant
use Rattle.pf_model.specs.declared.functions.RangeFn.TheVariants as ranged
use Rattle.pf_model.specs.Grammar.{Written, Arguments, IsLawful, AreLawful, AreKeys, IsPositive, Derives, Keys, Group, meaning, meanings, both, matched_of, grouped_of, mods_of, side_of, include_of, ends_with_group, is_nil}
use Rattle.pf_model.specs.Grammar as grammar
use Rattle.pf_lex.specs.CanonicalTokens.{HasTree, IsPrintable}
use Rattle.pf_model.specs.Trees.{Tree, Trees}
use Rattle.pf_model.specs.Trees as tree
use Rattle.pf_model.specs.Words.{function_name, function_of, is_comparison}
use Rattle.pf_print.specs.Printed.{IsDerivedBy}
use Rattle.pf_model.proofs.Levels.{level_positive}

-- what derived trees have in common
abbrev pub IsSided : Side → List (List ℕ) → Type 0
IsSided side.One include = include ≡ []
IsSided side.Left include = Unit {0}
IsSided side.Right include = Unit {0}

abbrev mutual
  pub IsWell : Tree → Type 0
  IsWell (tree.number n) = Unit {0}
  IsWell (tree.text s) = Unit {0}
  IsWell (tree.unary minus e) = IsWell e
  IsWell (tree.binary op m a b) =
      ((op.with_bool && not (is_comparison op.sign)) ≡ false) × IsSided m.side m.include × IsWell a × IsWell b
  IsWell (tree.call f args) = AreWell args
  IsWell (tree.aggregate op g tree.none) = ⊥
  IsWell (tree.aggregate op g (tree.more e es)) = IsWell e × AreWell es
  IsWell (tree.select ms range mods) = IfSome range IsPositive
  IsWell (tree.subquery e range resolution mods) = IsWell e × IsPositive range × IfSome resolution IsPositive

  pub AreWell : Trees → Type 0
  AreWell tree.none = Unit {0}
  AreWell (tree.more e es) = IsWell e × AreWell es

-- ---- what is written is lawful

moment_lawful : (a : Option At) → IfSome (option_map moment_written a) grammar.IsAtModifier
moment_lawful None = tt
moment_lawful (Some (at.Time m)) = le-leb 0 (m * 1000 / 1000) (omega arith)
moment_lawful (Some at.Start) = tt
moment_lawful (Some at.End) = tt

keys_lawful : (on : Bool) (ls : List (List ℕ)) (s : Side) (i : List (List ℕ)) → IfSome (keys_written (record { on = on; labels = ls; side = s; include = i })) AreKeys
keys_lawful on ls s i = by_test (is_nil ls && not on && is_one s) s
  where
    by_side : (s : Side) → IfSome (group_written s i) (λ g. IfSome g.include grammar.AreLabels)
    by_side side.One = tt
    by_side side.Left = refl
    by_side side.Right = refl

    by_test : (t : Bool) (s : Side)
        → IfSome (cond t None (Some (record { on = on; labels = labels_written ls; group = group_written s i }))) AreKeys
    by_test true s = tt
    by_test false s = (refl, by_side s)

keys_end : (m : Matched) (b : Bool) → (ends_with_group (keys_written m) && b) ≡ false
keys_end m b = by_test (is_nil m.labels && not m.on && is_one m.side) m.side
  where
    by_test : (t : Bool) (s : Side)
        → (ends_with_group (cond t None (Some (record { on = m.on; labels = labels_written m.labels; group = group_written s m.include }))) && b) ≡ false
    by_test true s = refl
    by_test false side.One = refl
    by_test false side.Left = refl
    by_test false side.Right = refl

mutual
  lawful : (t : Tree) → IsWell t → IsLawful (written_of t)
  lawful (tree.number n) w = tt
  lawful (tree.text s) w = tt
  lawful (tree.unary minus e) w = (omega arith, lawful e w)
  lawful (tree.binary op m a b) w = (
    omega arith,
    omega (arith, level_positive op.sign),
    w.0,
    keys_lawful m.on m.labels m.side m.include,
    keys_end m true,
    lawful a w.2,
    lawful b w.3,
  )
  lawful (tree.call f args) w = all_lawful args w
  lawful (tree.aggregate op g tree.none) w = absurd w
  lawful (tree.aggregate op g (tree.more e es)) w = (refl, lawful e w.0, all_lawful es w.1)
  lawful (tree.select ms range mods) w = (refl, w, moment_lawful mods.at)
  lawful (tree.subquery e range resolution mods) w = (omega arith, lawful e w.0, w.1, w.2, moment_lawful mods.at)

  all_lawful : (ts : Trees) → AreWell ts → AreLawful (all_written ts)
  all_lawful tree.none w = tt
  all_lawful (tree.more e es) w = (lawful e w.0, all_lawful es w.1)

-- ---- what is written means the tree

named : (f : Function) → function_of (function_name f) ≡ Some f
named (called.Range ranged.Increase) = refl
named (called.Range ranged.Rate) = refl
named (called.Range ranged.Delta) = refl
named (called.Range ranged.Irate) = refl
named (called.Range ranged.Idelta) = refl
named (called.Range ranged.Changes) = refl
named (called.Range ranged.Resets) = refl
named (called.Range ranged.AvgOverTime) = refl
named (called.Range ranged.SumOverTime) = refl
named (called.Range ranged.MinOverTime) = refl
named (called.Range ranged.MaxOverTime) = refl
named (called.Range ranged.CountOverTime) = refl
named (called.Range ranged.LastOverTime) = refl
named (called.Range ranged.PresentOverTime) = refl
named (called.Range ranged.AbsentOverTime) = refl
named (called.Instant instant.Abs) = refl
named (called.Instant instant.Ceil) = refl
named (called.Instant instant.Floor) = refl
named (called.Instant instant.Sgn) = refl
named (called.Instant instant.Round) = refl
named (called.Instant instant.Clamp) = refl
named (called.Instant instant.ClampMin) = refl
named (called.Instant instant.ClampMax) = refl
named (called.Instant instant.Absent) = refl
named (called.Instant instant.Scalar) = refl
named (called.Instant instant.Vector) = refl
named (called.Instant instant.Time) = refl
named (called.Instant instant.Timestamp) = refl
named (called.Instant instant.LabelReplace) = refl
named (called.Instant instant.LabelJoin) = refl

mods_back : (a : Option At) (o : ℤ) → mods_of (mods_written (record { at = a; offset = o })) ≡ record { at = a; offset = o }
mods_back a o = ap (λ x. record { at = x; offset = grammar.offset_of (offset_written o) }) (at_back a) ∙ ap (λ x. record { at = a; offset = x }) (offset_back o)
  where
    whole : (m : ℕ) → m * 1000 / 1000 ≡ m
    whole m = omega arith

    at_back : (a : Option At) → option_map grammar.at_of (option_map moment_written a) ≡ a
    at_back None = refl
    at_back (Some (at.Time m)) = ap (λ n. Some (at.Time n)) (whole m)
    at_back (Some at.Start) = refl
    at_back (Some at.End) = refl

    offset_back : (o : ℤ) → grammar.offset_of (offset_written o) ≡ o
    offset_back (pos zero) = refl
    offset_back (pos (suc n)) = refl
    offset_back (negsuc n) = refl

keys_back : (on : Bool) (ls : List (List ℕ)) (s : Side) (i : List (List ℕ)) → IsSided s i
    → matched_of (keys_written (record { on = on; labels = ls; side = s; include = i })) ≡ record { on = on; labels = ls; side = s; include = i }
keys_back false [] side.One i w = ap (λ x. record { on = false; labels = []; side = side.One; include = x }) (sym w)
keys_back true [] side.One i w = ap (λ x. record { on = true; labels = []; side = side.One; include = x }) (sym w)
keys_back false (l ∷ ls) side.One i w = ap (λ x. record { on = false; labels = l ∷ ls; side = side.One; include = x }) (sym w)
keys_back true (l ∷ ls) side.One i w = ap (λ x. record { on = true; labels = l ∷ ls; side = side.One; include = x }) (sym w)
keys_back false [] side.Left i w = refl
keys_back true [] side.Left i w = refl
keys_back false (l ∷ ls) side.Left i w = refl
keys_back true (l ∷ ls) side.Left i w = refl
keys_back false [] side.Right i w = refl
keys_back true [] side.Right i w = refl
keys_back false (l ∷ ls) side.Right i w = refl
keys_back true (l ∷ ls) side.Right i w = refl

mutual
  back : (t : Tree) → IsWell t → meaning (written_of t) ≡ Some t
  back (tree.number n) w = refl
  back (tree.text s) w = refl
  back (tree.unary minus e) w = ap (option_map (tree.unary minus)) (back e w)
  back (tree.binary op m a b) w =
      ap (λ x. both (tree.binary op (matched_of (keys_written m))) x (meaning (written_of b))) (back a w.2)
      ∙ (ap (both (tree.binary op (matched_of (keys_written m))) (Some a)) (back b w.3)
      ∙ ap (λ x. Some (tree.binary op x a b)) (keys_back m.on m.labels m.side m.include w.1))
  back (tree.call f args) w =
      ap (λ x. both tree.call x (meanings (all_written args))) (named f) ∙ ap (both tree.call (Some f)) (all_back args w)
  back (tree.aggregate op g tree.none) w = absurd w
  back (tree.aggregate op g (tree.more e es)) w =
      ap (λ x. option_map (tree.aggregate op g) (both tree.more x (meanings (all_written es)))) (back e w.0)
      ∙ ap (λ x. option_map (tree.aggregate op g) (both tree.more (Some e) x)) (all_back es w.1)
  back (tree.select ms range mods) w = ap (λ x. Some (tree.select ms range x)) (mods_back mods.at mods.offset)
  back (tree.subquery e range resolution mods) w =
      ap (option_map (λ inner. tree.subquery inner range resolution (mods_of (mods_written mods)))) (back e w.0)
      ∙ ap (λ x. Some (tree.subquery e range resolution x)) (mods_back mods.at mods.offset)

  all_back : (ts : Trees) → AreWell ts → meanings (all_written ts) ≡ Some ts
  all_back tree.none w = refl
  all_back (tree.more e es) w =
      ap (λ x. both tree.more x (meanings (all_written es))) (back e w.0) ∙ ap (both tree.more (Some e)) (all_back es w.1)

-- ---- derived trees

record Both {A B C : Type 0} (f : A → B → C) (x : Option A) (y : Option B) (c : C) : Type 0 where
  first : A
  second : B
  is_first : x ≡ Some first
  is_second : y ≡ Some second
  made : f first second ≡ c

some_same : {A : Type 0} (a b : A) → Some a ≡ Some b → a ≡ b
some_same a b h = cc

both_parts : {A B C : Type 0} (f : A → B → C) (x : Option A) (y : Option B) (c : C) → both f x y ≡ Some c → Both f x y c
both_parts f None y c h = absurd (grind arith)
both_parts f (Some x) None c h = absurd (grind arith)
both_parts f (Some x) (Some y) c h =
    record { first = x; second = y; is_first = refl; is_second = refl; made = some_same (f x y) c h }

record Mapped {A C : Type 0} (f : A → C) (x : Option A) (c : C) : Type 0 where
  first : A
  is_first : x ≡ Some first
  made : f first ≡ c

map_parts : {A C : Type 0} (f : A → C) (x : Option A) (c : C) → option_map f x ≡ Some c → Mapped f x c
map_parts f None c h = absurd (grind arith)
map_parts f (Some x) c h = record { first = x; is_first = refl; made = some_same (f x) c h }

keys_sided : (k : Option Keys) → IsSided (matched_of k).side (matched_of k).include
keys_sided None = refl
keys_sided (Some k) = by_group k.group
  where
    by_left : (l : Bool) (i : List (List ℕ)) → IsSided (cond l side.Left side.Right) i
    by_left true i = tt
    by_left false i = tt

    by_group : (g : Option Group) → IsSided (side_of g) (include_of g)
    by_group None = refl
    by_group (Some g) = by_left g.left (include_of (Some g))

mutual
  well : (w : Written) (t : Tree) → IsLawful w → meaning w ≡ Some t → IsWell t
  well (grammar.number n) t l h = subst IsWell (some_same (tree.number n) t h) tt
  well (grammar.text s) t l h = subst IsWell (some_same (tree.text s) t h) tt
  well (grammar.brackets e) t l h = well e t l h
  well (grammar.call n args) t l h =
      let p = both_parts tree.call (function_of n) (meanings args) t h in
      subst IsWell p.made (all_well args p.second l p.is_second)
  well (grammar.aggregate op c grammar.none) t l h = absurd l
  well (grammar.aggregate op c (grammar.more e es)) t l h =
      let p = map_parts (tree.aggregate op (grouped_of c)) (both tree.more (meaning e) (meanings es)) t h in
      let q = both_parts tree.more (meaning e) (meanings es) p.first p.is_first in
      subst IsWell (ap (tree.aggregate op (grouped_of c)) q.made ∙ p.made)
      (well e q.first l.1 q.is_first, all_well es q.second l.2 q.is_second)
  well (grammar.unary minus e) t l h =
      let p = map_parts (tree.unary minus) (meaning e) t h in
      subst IsWell p.made (well e p.first l.1 p.is_first)
  well (grammar.binary op k a b) t l h =
      let p = both_parts (tree.binary op (matched_of k)) (meaning a) (meaning b) t h in
      subst IsWell p.made (l.2, keys_sided k, well a p.first l.5 p.is_first, well b p.second l.6 p.is_second)
  well (grammar.select s range mods) t l h = subst IsWell (some_same _ t h) l.1
  well (grammar.subquery e range resolution mods) t l h =
      let p = map_parts (λ inner. tree.subquery inner range resolution (mods_of mods)) (meaning e) t h in
      subst IsWell p.made (well e p.first l.1 p.is_first, l.2, l.3)

  all_well : (es : Arguments) (ts : Trees) → AreLawful es → meanings es ≡ Some ts → AreWell ts
  all_well grammar.none ts l h = subst AreWell (some_same tree.none ts h) tt
  all_well (grammar.more e es) ts l h =
      let p = both_parts tree.more (meaning e) (meanings es) ts h in
      subst AreWell p.made (well e p.first l.0 p.is_first, all_well es p.second l.1 p.is_second)

-- the canonical text of a tree that can be printed, with what derived trees have in common, derives it
pub well_derives : (t : Tree) → IsPrintable t → IsWell t → IsDerivedBy (canonical t) t
well_derives t p w =
    let c = canonical_is_cut t p in
    record {
      tokens = c.tokens;
      are_tokens = c.are;
      derives = subst (λ ss. Derives ss t) (sym c.same)
          (record { written = written_of t; derived = record { fits = canonical_fits t p; lawful = lawful t w }; means = back t w });
    }

pub derived_well : (text : List ℕ) (t : Tree) → HasTree text t → IsWell t
derived_well text t h = well h.derives.written t h.derives.derived.lawful h.derives.means

pub canonical_derives : (text : List ℕ) (t : Tree) → HasTree text t → IsDerivedBy (canonical t) t
canonical_derives text t h = well_derives t (can_be_printed text t h) (derived_well text t h)

pub printed_derives : {E : Type 0} (t : Tree) (r : Result (List ℕ) E) → IfOk r (λ x. x ≡ canonical t) → (text : List ℕ) → HasTree text t
    → IfOk r (λ x. IsDerivedBy x t)
printed_derives t (Ok x) e text h = subst (λ y. IsDerivedBy y t) (sym e) (canonical_derives text t h)
printed_derives t (Err x) e text h = tt
