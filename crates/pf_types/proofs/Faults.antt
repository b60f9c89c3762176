-- The first fault of the nodes of a tree, from those of its parts.
use Rattle.std.proofs.Common.{◌≡◌, ◌∙◌, sym, ap, refl, ℕ, ◌+◌, arith, not, Bool, true, false, Option, None, Some, List, [], ◌∷◌, ◌++◌}
use Rattle.std.specs.Option.{option_map, option_or}
use Rattle.pf_model.specs.Cuts.{only_if}
use Rattle.pf_model.specs.Trees.{Tree, Trees, number, text, unary, binary, call, aggregate, select, subquery, none, more, Node, nodes, all_nodes, size}
use Rattle.pf_model.specs.Typing.{TypeFault, arg_count, wrong, bad_name, bool_needed, bad_matching, subquery_too_fine, Wanted, fault_at, first_fault, first_wrong, admits, kind_of, named_kind, wants, operands, has_wrong_count, has_bad_name, lacks_bool, has_bad_matching, is_too_fine}
use Rattle.pf_types.specs.Faults.{capped, capped_fault}

-- ---- one fault or else another

pub or_none : {A : Type 0} (x : Option A) → option_or x None ≡ x
or_none None = refl
or_none (Some x) = refl

pub or_or : {A : Type 0} (x y z : Option A) → option_or (option_or x y) z ≡ option_or x (option_or y z)
or_or None y z = refl
or_or (Some x) y z = refl

pub map_or : {A B : Type 0} (f : A → B) (x y : Option A) → option_map f (option_or x y) ≡ option_or (option_map f x) (option_map f y)
map_or f None y = refl
map_or f (Some x) y = refl

pub both : {A : Type 0} {x y u v : Option A} → x ≡ u → y ≡ v → option_or x y ≡ option_or u v
both {y = y} {u = u} p q = ap (λ a. option_or a y) p ∙ ap (option_or u) q

-- ---- faults with their numbers capped

pub if_capped : (b : Bool) (f : TypeFault) → option_map capped_fault (only_if b f) ≡ only_if b (capped_fault f)
if_capped false f = refl
if_capped true f = refl

pub wrong_capped : (n : ℕ) (ws : List Wanted) (es : List Tree)
    → option_map capped_fault (first_wrong n ws es) ≡ first_wrong (capped n) ws es
wrong_capped n [] es = refl
wrong_capped n (w ∷ ws) [] = refl
wrong_capped n (w ∷ ws) (e ∷ es) =
    map_or capped_fault (only_if (not (admits w (kind_of e))) (wrong n (named_kind w) (kind_of e))) (first_wrong n ws es)
    ∙ both (if_capped (not (admits w (kind_of e))) (wrong n (named_kind w) (kind_of e))) (wrong_capped n ws es)

pub at_capped : (n : ℕ) (t : Tree) → option_map capped_fault (fault_at n t) ≡ fault_at (capped n) t
at_capped n t =
    map_or capped_fault (only_if (has_wrong_count t) (arg_count n)) _
    ∙ both (if_capped (has_wrong_count t) (arg_count n))
    (map_or capped_fault (first_wrong n (wants t) (operands t)) _
    ∙ both (wrong_capped n (wants t) (operands t))
    (map_or capped_fault (only_if (has_bad_name t) (bad_name n)) _
    ∙ both (if_capped (has_bad_name t) (bad_name n))
    (map_or capped_fault (only_if (lacks_bool t) (bool_needed n)) _
    ∙ both (if_capped (lacks_bool t) (bool_needed n))
    (map_or capped_fault (only_if (has_bad_matching t) (bad_matching n)) _
    ∙ both (if_capped (has_bad_matching t) (bad_matching n)) (if_capped (is_too_fine t) (subquery_too_fine n))))))

-- ---- nodes in order

pub first_append : (xs ys : List Node) → first_fault (xs ++ ys) ≡ option_or (first_fault xs) (first_fault ys)
first_append [] ys = refl
first_append (x ∷ xs) ys =
    ap (option_or (fault_at x.number x.tree)) (first_append xs ys)
    ∙ sym (or_or (fault_at x.number x.tree) (first_fault xs) (first_fault ys))

abbrev pub fault_among : List Node → Option TypeFault
fault_among ns = option_map capped_fault (first_fault ns)

pub among_append : (xs ys : List Node) → fault_among (xs ++ ys) ≡ option_or (fault_among xs) (fault_among ys)
among_append xs ys = ap (option_map capped_fault) (first_append xs ys) ∙ map_or capped_fault (first_fault xs) (first_fault ys)

abbrev pub below : ℕ → Tree → Option TypeFault
below n t = fault_among (nodes n t)

abbrev pub all_below : ℕ → Trees → Option TypeFault
all_below n ts = fault_among (all_nodes n ts)

abbrev pub node : ℕ → Tree → Node
node n t = record { number = n; tree = t }

pub among_one : (n : ℕ) (t : Tree) → fault_among (node n t ∷ []) ≡ fault_at (capped n) t
among_one n t = ap (option_map capped_fault) (or_none (fault_at n t)) ∙ at_capped n t

pub among_last : (xs : List Node) (n : ℕ) (t : Tree)
    → fault_among (xs ++ (node n t ∷ [])) ≡ option_or (fault_among xs) (fault_at (capped n) t)
among_last xs n t = among_append xs (node n t ∷ []) ∙ both refl (among_one n t)

-- ---- first numbers that are one when capped

pub sum_capped : (n m k : ℕ) → capped n ≡ capped m → capped (n + k) ≡ capped (m + k)
sum_capped n m k e = omega (arith, e)

pub capped_capped : (n : ℕ) → capped (capped n) ≡ capped n
capped_capped n = omega arith

pub one_same : (n m : ℕ) (t : Tree) → capped n ≡ capped m → fault_among (node n t ∷ []) ≡ fault_among (node m t ∷ [])
one_same n m t e = among_one n t ∙ ap (λ k. fault_at k t) e ∙ sym (among_one m t)

pub last_same : (xs ys : List Node) (n m : ℕ) (t : Tree) → fault_among xs ≡ fault_among ys → capped n ≡ capped m
    → fault_among (xs ++ (node n t ∷ [])) ≡ fault_among (ys ++ (node m t ∷ []))
last_same xs ys n m t p e = among_append xs _ ∙ both p (one_same n m t e) ∙ sym (among_append ys _)

mutual
  pub same_below : (n m : ℕ) (t : Tree) → capped n ≡ capped m → below n t ≡ below m t
  same_below n m (number v) e = one_same n m (number v) e
  same_below n m (text s) e = one_same n m (text s) e
  same_below n m (unary minus a) e =
      last_same (nodes (n + 1) a) (nodes (m + 1) a) n m (unary minus a) (same_below (n + 1) (m + 1) a (sum_capped n m 1 e)) e
  same_below n m (binary op g a b) e =
      among_append (nodes (n + 1) a) _
      ∙ both (same_below (n + 1) (m + 1) a (sum_capped n m 1 e))
      (last_same (nodes (n + 1 + size a) b) (nodes (m + 1 + size a) b) n m (binary op g a b)
      (same_below (n + 1 + size a) (m + 1 + size a) b (sum_capped (n + 1) (m + 1) (size a) (sum_capped n m 1 e))) e)
      ∙ sym (among_append (nodes (m + 1) a) _)
  same_below n m (call f args) e =
      last_same (all_nodes (n + 1) args) (all_nodes (m + 1) args) n m (call f args) (all_same (n + 1) (m + 1) args (sum_capped n m 1 e)) e
  same_below n m (aggregate op g args) e =
      last_same (all_nodes (n + 1) args) (all_nodes (m + 1) args) n m (aggregate op g args)
      (all_same (n + 1) (m + 1) args (sum_capped n m 1 e)) e
  same_below n m (select ms range mods) e = one_same n m (select ms range mods) e
  same_below n m (subquery a range resolution mods) e =
      last_same (nodes (n + 1) a) (nodes (m + 1) a) n m (subquery a range resolution mods)
      (same_below (n + 1) (m + 1) a (sum_capped n m 1 e)) e

  pub all_same : (n m : ℕ) (ts : Trees) → capped n ≡ capped m → all_below n ts ≡ all_below m ts
  all_same n m none e = refl
  all_same n m (more t ts) e =
      among_append (nodes n t) (all_nodes (n + size t) ts)
      ∙ both (same_below n m t e) (all_same (n + size t) (m + size t) ts (sum_capped n m (size t) e))
      ∙ sym (among_append (nodes m t) (all_nodes (m + size t) ts))

-- the number itself may be capped
pub below_capped : (n : ℕ) (t : Tree) → below n t ≡ below (capped n) t
below_capped n t = same_below n (capped n) t (sym (capped_capped n))

pub all_capped : (n : ℕ) (ts : Trees) → all_below n ts ≡ all_below (capped n) ts
all_capped n ts = all_same n (capped n) ts (sym (capped_capped n))

-- what comes of one fault or else another
pub or_first : {A : Type 0} (x y : Option A) (v : A) → x ≡ Some v → option_or x y ≡ Some v
or_first x y v e = ap (λ a. option_or a y) e

pub or_second : {A : Type 0} (x y : Option A) → x ≡ None → option_or x y ≡ y
or_second x y e = ap (λ a. option_or a y) e
