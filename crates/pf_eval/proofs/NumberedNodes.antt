-- A node by its number, sought in a node's own list and then in its children's.
use Rattle.std.proofs.Common.{◌≡◌, ◌+◌, ℕ, zero, suc, Some, None, List, [], ◌∷◌, ◌++◌, length, map, drop, get_or, ◌<◌, refl, sym, ap, ◌∙◌, arith, length-append}
use Rattle.std.proofs.lemmas.List.{drop_more}
use Rattle.pf_model.specs.declared.expr.Expr.{Expr}
use Rattle.pf_model.specs.Lists.{at}
use Rattle.pf_model.specs.Trees as tree
use Rattle.pf_model.specs.Trees.{Tree, all_preorder, preorder, tree_of, trees_of}
use Rattle.pf_eval.specs.Plain.{IsSoughtIn}
use Rattle.pf_eval.specs.declared.numbered.Search.{Search}
use Rattle.pf_eval.specs.declared.numbered.Search.TheVariants.{Found, Behind}

pub own_place : (t : Tree) → at (preorder t) 0 ≡ Some t
own_place (tree.number v) = refl
own_place (tree.text bytes) = refl
own_place (tree.unary minus arg) = refl
own_place (tree.binary op m a b) = refl
own_place (tree.call f args) = refl
own_place (tree.aggregate op g args) = refl
own_place (tree.select ms range mods) = refl
own_place (tree.subquery arg range resolution mods) = refl

at_suc : (x : Tree) (xs : List Tree) (n m : ℕ) → n ≡ suc m → at (x ∷ xs) n ≡ at xs m
at_suc x xs n m e = ap (at (x ∷ xs)) e

-- behind a node in front
pub behind_node : (x : Tree) (xs ys : List Tree) (n m : ℕ) (s : Search) → ys ≡ x ∷ xs → n ≡ suc m → IsSoughtIn xs m s → IsSoughtIn ys n s
behind_node x xs ys n m (Found node) is e h = ap (λ zs. at zs n) is ∙ at_suc x xs n m e ∙ h
behind_node x xs ys n m (Behind further) is e h =
    let all : length ys ≡ suc (length xs) = ap length is in
    omega (arith, h, e, all)

at_left : (xs ys : List Tree) (n : ℕ) (t : Tree) → at xs n ≡ Some t → at (xs ++ ys) n ≡ Some t
at_left [] ys n t h = cc
at_left (x ∷ xs) ys zero t h = h
at_left (x ∷ xs) ys (suc n) t h = at_left xs ys n t h

at_right : (xs ys : List Tree) (n m : ℕ) → n ≡ length xs + m → at (xs ++ ys) n ≡ at ys m
at_right [] ys n m e = let is : n ≡ m = omega (arith, e) in ap (at ys) is
at_right (x ∷ xs) ys zero m e = absurd (omega (arith, e))
at_right (x ∷ xs) ys (suc n) m e = at_right xs ys n m (omega (arith, e))

pub among_first : (xs ys zs : List Tree) (n : ℕ) (t : Tree) → zs ≡ xs ++ ys → at xs n ≡ Some t → at zs n ≡ Some t
among_first xs ys zs n t is h = ap (λ ws. at ws n) is ∙ at_left xs ys n t h

-- behind other nodes
pub behind_first : (xs ys zs : List Tree) (n m : ℕ) (s : Search) → zs ≡ xs ++ ys → n ≡ length xs + m → IsSoughtIn ys m s → IsSoughtIn zs n s
behind_first xs ys zs n m (Found node) is e h = ap (λ ws. at ws n) is ∙ at_right xs ys n m e ∙ h
behind_first xs ys zs n m (Behind further) is e h =
    let all : length zs ≡ length xs + length ys = ap length is ∙ length-append xs ys in
    omega (arith, h, e, all)

at_end : (xs : List Tree) (n m : ℕ) → n ≡ length xs + m → at xs n ≡ None
at_end [] n m e = refl
at_end (x ∷ xs) zero m e = absurd (omega (arith, e))
at_end (x ∷ xs) (suc n) m e = at_end xs n m (omega (arith, e))

-- ---- queries one after another

abbrev pub all_of : List Expr → List Tree
all_of es = all_preorder (trees_of (map tree_of es))

pub first_of_all : (es : List Expr) (i : ℕ) (e : Expr) → i < length es → e ≡ get_or es i e → all_of (drop i es) ≡ preorder (tree_of e) ++ all_of (drop (i + 1) es)
first_of_all es i e h is =
    ap all_of (drop_more es i e h) ∙ ap (λ x. preorder (tree_of x) ++ all_of (drop (i + 1) es)) (sym is)

-- what is sought among those that are left
pub record IsLeft (all left : List Tree) (n m : ℕ) : Type 0 where
  pub place : at left m ≡ at all n
  pub count : length all + m ≡ n + length left

pub found_left : (all left first rest : List Tree) (n m : ℕ) (t : Tree) → left ≡ first ++ rest → IsLeft all left n m → at first m ≡ Some t → at all n ≡ Some t
found_left all left first rest n m t is h e = sym h.place ∙ among_first first rest left m t is e

pub left_behind : (all left first rest : List Tree) (n m further : ℕ) → left ≡ first ++ rest → IsLeft all left n m → m ≡ length first + further → IsLeft all rest n further
left_behind all left first rest n m further is h e =
    let many : length left ≡ length first + length rest = ap length is ∙ length-append first rest in
    let count = h.count in
    record {
      place = sym (at_right first rest m further e) ∙ ap (λ ws. at ws m) (sym is) ∙ h.place;
      count = omega (arith, count, many, e);
    }

pub left_all : (all : List Tree) (n : ℕ) → IsLeft all all n n
left_all all n = record { place = refl; count = omega arith }

pub none_left : (all left : List Tree) (n m : ℕ) → left ≡ [] → IsLeft all left n m → n ≡ length all + m
none_left all left n m is h =
    let none : length left ≡ 0 = ap length is in
    let count = h.count in
    omega (arith, count, none)
