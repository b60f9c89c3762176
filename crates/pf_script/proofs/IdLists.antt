-- The IDs so far, as a list and as a map.
use Rattle.std.proofs.Common.{◌≡◌, ◌∙◌, ℕ, Bool, true, false, not, ◌&&◌, cond, Option, Some, None, option_map, map, List, [], ◌∷◌, refl, sym, ap}
use Rattle.std.specs.Option.{is_some}
use Rattle.std.specs.BTreeMap.{BTreeMap, UpdatesBy}
use Rattle.std.specs.Cmp.Lexicographic.{slice_cmp}
use Rattle.std.specs.Map.{lookup}
use Rattle.std.specs.Ordering.{is_eq, nat_cmp}
use Rattle.std.specs.Str.{bytes_eq}
use Rattle.std.proofs.lemmas.Cmp.{nat_list_eq_equiv}
use Rattle.std.proofs.lemmas.Map.Text.{is_eq-slice_cmp, btree_map_updates_str}
use Rattle.std.proofs.lemmas.Slice.Eq.{bytes_eq-Decides}
use Rattle.pf_model.specs.Cuts.{◌>>=◌}
use Rattle.pf_journal.specs.Scripts.{Issued, answered_as, is_new, issued_as, issued_at, kept_as}
use Rattle.pf_script.specs.Cuts.{Finds}
use Rattle.pf_script.specs.IdLists.{Alike, as_issued, issued_by, unanswered_as, unkept_as, unless_answered, unless_kept}
use Rattle.pf_script.specs.declared.ids.Asked.{Asked}
use denote.Ref.{Bor}

same : (a b : List ℕ) → bytes_eq a b ≡ true → a ≡ b
same a b e = (bytes_eq-Decides a b).0 e

turned : (a b : List ℕ) → bytes_eq a b ≡ bytes_eq b a
turned a b = nat_list_eq_equiv.symm a b

like : (a b c : List ℕ) → bytes_eq a b ≡ true → bytes_eq a c ≡ bytes_eq b c
like a b c e = nat_list_eq_equiv.congr a b c e

-- ---- what a map has at an ID

abbrev pub found : List ℕ → List (Bor (List ℕ) × Asked) → Option Asked
found id es = lookup (λ k. is_eq (slice_cmp nat_cmp id k.now)) es

issued_step : (id k : List ℕ) (a : Asked) (o : Option Issued) (p : Option Asked) (t : Bool) → bytes_eq k id ≡ t → o ≡ option_map (as_issued id) p
    → cond t (Some (as_issued k a)) o ≡ option_map (as_issued id) (cond t (Some a) p)
issued_step id k a o p true e h = ap (λ i. Some (as_issued i a)) (same k id e)
issued_step id k a o p false e h = h

issued_found : (id : List ℕ) (es : List (Bor (List ℕ) × Asked)) → issued_as id (map issued_by es) ≡ option_map (as_issued id) (found id es)
issued_found id [] = refl
issued_found id (e ∷ es) =
    issued_step id e.0.now e.1 (issued_as id (map issued_by es)) (found id es) (bytes_eq e.0.now id) refl (issued_found id es)
    ∙ ap (λ t. option_map (as_issued id) (cond t (Some e.1) (found id es))) (turned e.0.now id ∙ sym (is_eq-slice_cmp id e.0.now))

finds_by : (id : List ℕ) (es : List (Bor (List ℕ) × Asked)) (p : Option Asked) → issued_as id (map issued_by es) ≡ option_map (as_issued id) p
    → Finds (as_issued id) p (issued_as id (map issued_by es))
finds_by id es None e = e
finds_by id es (Some a) e = e

pub found_as : (id : List ℕ) (es : List (Bor (List ℕ) × Asked)) (p : Option Asked) → found id es ≡ p → issued_as id (map issued_by es) ≡ option_map (as_issued id) p
found_as id es p e = issued_found id es ∙ ap (option_map (as_issued id)) e

pub finds : (id : List ℕ) (es : List (Bor (List ℕ) × Asked)) (p : Option Asked) → found id es ≡ p → Finds (as_issued id) p (issued_as id (map issued_by es))
finds id es p e = finds_by id es p (found_as id es p e)

new_step : (t : Bool) (n : Bool) (a : Asked) (p : Option Asked) → n ≡ not (is_some p) → (not t && n) ≡ not (is_some (cond t (Some a) p))
new_step true n a p e = refl
new_step false n a p e = e

pub new_found : (id : List ℕ) (es : List (Bor (List ℕ) × Asked)) → is_new id (map issued_by es) ≡ not (is_some (found id es))
new_found id [] = refl
new_found id (e ∷ es) =
    new_step (bytes_eq e.0.now id) (is_new id (map issued_by es)) e.1 (found id es) (new_found id es)
    ∙ ap (λ t. not (is_some (cond t (Some e.1) (found id es)))) (turned e.0.now id ∙ sym (is_eq-slice_cmp id e.0.now))

-- ---- what is open

open_found : (id : List ℕ) (es : List (Bor (List ℕ) × Asked)) (p : Option Asked) → found id es ≡ p
    → unanswered_as id (map issued_by es) ≡ option_map (as_issued id) p >>= unless_answered
open_found id es p e = ap (λ o. o >>= unless_answered) (found_as id es p e)

pub never_asked : (id : List ℕ) (es : List (Bor (List ℕ) × Asked)) → found id es ≡ None → unanswered_as id (map issued_by es) ≡ None
never_asked id es e = open_found id es None e

pub once_answered : (id : List ℕ) (es : List (Bor (List ℕ) × Asked)) (a : Asked) → found id es ≡ Some a → a.answered ≡ true → unanswered_as id (map issued_by es) ≡ None
once_answered id es a e h = open_found id es (Some a) e ∙ rw h refl

pub now_open : (id : List ℕ) (es : List (Bor (List ℕ) × Asked)) (a : Asked) → found id es ≡ Some a → a.answered ≡ false → unanswered_as id (map issued_by es) ≡ Some (as_issued id a)
now_open id es a e h = open_found id es (Some a) e ∙ rw h refl

pub never_kept : (id : List ℕ) (es : List (Bor (List ℕ) × Asked)) → found id es ≡ None → unkept_as id (map issued_by es) ≡ None
never_kept id es e = ap (λ o. o >>= unless_kept) (never_asked id es e)

pub once_answered_kept : (id : List ℕ) (es : List (Bor (List ℕ) × Asked)) (a : Asked) → found id es ≡ Some a → a.answered ≡ true → unkept_as id (map issued_by es) ≡ None
once_answered_kept id es a e h = ap (λ o. o >>= unless_kept) (once_answered id es a e h)

pub once_kept : (id : List ℕ) (es : List (Bor (List ℕ) × Asked)) (a : Asked) → found id es ≡ Some a → a.answered ≡ false → a.kept ≡ true
    → unkept_as id (map issued_by es) ≡ None
once_kept id es a e h k = ap (λ o. o >>= unless_kept) (now_open id es a e h) ∙ rw k refl

pub now_unkept : (id : List ℕ) (es : List (Bor (List ℕ) × Asked)) (a : Asked) → found id es ≡ Some a → a.answered ≡ false → a.kept ≡ false
    → unkept_as id (map issued_by es) ≡ Some (as_issued id a)
now_unkept id es a e h k = ap (λ o. o >>= unless_kept) (now_open id es a e h) ∙ rw k refl

-- ---- a line that asks

pub issued_alike : (id : List ℕ) (line : ℕ) (m n : BTreeMap (Bor (List ℕ)) Asked)
    → UpdatesBy (λ x y. slice_cmp nat_cmp x.now y.now) (λ k. slice_cmp nat_cmp id k.now) m n (Some (record { line = line; answered = false; kept = false }))
    → Alike (issued_at id line ∷ map issued_by m.entries) (map issued_by n.entries)
issued_alike id line m n u = λ q.
    issued_step q id (record { line = line; answered = false; kept = false }) (issued_as q (map issued_by m.entries)) (found q m.entries) (bytes_eq id q) refl (issued_found q m.entries)
    ∙ ap (option_map (as_issued q)) (sym (btree_map_updates_str id m n _ u q)) ∙ sym (issued_found q n.entries)

-- ---- a line that answers or keeps

-- one ID's record is changed, and stays the same ID's
abbrev pub marked_as : (Issued → Issued) → List ℕ → List Issued → List Issued
marked_as mark id [] = []
marked_as mark id (i ∷ is) = cond (bytes_eq i.id id) (mark i ∷ is) (i ∷ marked_as mark id is)

abbrev pub as_answered : Issued → Issued
as_answered i = record { id = i.id; line = i.line; answered = true; kept = i.kept }

abbrev pub as_kept : Issued → Issued
as_kept i = record { id = i.id; line = i.line; answered = i.answered; kept = true }

pub answered_is : (id : List ℕ) (is : List Issued) → answered_as id is ≡ marked_as as_answered id is
answered_is id [] = refl
answered_is id (i ∷ is) = ap (λ js. cond (bytes_eq i.id id) (as_answered i ∷ is) (i ∷ js)) (answered_is id is)

pub kept_is : (id : List ℕ) (is : List Issued) → kept_as id is ≡ marked_as as_kept id is
kept_is id [] = refl
kept_is id (i ∷ is) = ap (λ js. cond (bytes_eq i.id id) (as_kept i ∷ is) (i ∷ js)) (kept_is id is)

mark_other : (mark : Issued → Issued) (i : Issued) (o p : Option Issued) (s r : Bool) → (s ≡ true → r ≡ false) → p ≡ cond r (option_map mark o) o
    → cond s (Some i) p ≡ cond r (option_map mark (cond s (Some i) o)) (cond s (Some i) o)
mark_other mark i o p true true f e = let x : true ≡ false = f refl in cc
mark_other mark i o p true false f e = refl
mark_other mark i o p false r f e = e

mark_same : (mark : Issued → Issued) (i : Issued) (o : Option Issued) (s r : Bool) → s ≡ r
    → cond s (Some (mark i)) o ≡ cond r (option_map mark (cond s (Some i) o)) (cond s (Some i) o)
mark_same mark i o true true e = refl
mark_same mark i o true false e = cc
mark_same mark i o false true e = cc
mark_same mark i o false false e = refl

mark_step : (mark : Issued → Issued) (id q : List ℕ) (i : Issued) (is : List Issued) (t : Bool) → (mark i).id ≡ i.id → bytes_eq i.id id ≡ t
    → issued_as q (marked_as mark id is) ≡ cond (bytes_eq id q) (option_map mark (issued_as q is)) (issued_as q is)
    → issued_as q (cond t (mark i ∷ is) (i ∷ marked_as mark id is)) ≡ cond (bytes_eq id q) (option_map mark (issued_as q (i ∷ is))) (issued_as q (i ∷ is))
mark_step mark id q i is true k e h =
    ap (λ j. cond (bytes_eq j q) (Some (mark i)) (issued_as q is)) k
    ∙ mark_same mark i (issued_as q is) (bytes_eq i.id q) (bytes_eq id q) (like i.id id q e)
mark_step mark id q i is false k e h =
    mark_other mark i (issued_as q is) (issued_as q (marked_as mark id is)) (bytes_eq i.id q) (bytes_eq id q)
    (λ s. turned id q ∙ sym (like i.id q id s) ∙ e) h

nowhere : (t : Bool) → ◌≡◌ {A = Option Issued} None (cond t None None)
nowhere true = refl
nowhere false = refl

pub marked_at : (mark : Issued → Issued) → ((i : Issued) → (mark i).id ≡ i.id) → (id q : List ℕ) (is : List Issued)
    → issued_as q (marked_as mark id is) ≡ cond (bytes_eq id q) (option_map mark (issued_as q is)) (issued_as q is)
marked_at mark k id q [] = nowhere (bytes_eq id q)
marked_at mark k id q (i ∷ is) = mark_step mark id q i is (bytes_eq i.id id) (k i) refl (marked_at mark k id q is)

marked_found : (mark : Issued → Issued) (q : List ℕ) (a b : Asked) (p : Option Asked) (t : Bool) → mark (as_issued q a) ≡ as_issued q b → (t ≡ true → p ≡ Some a)
    → cond t (option_map mark (option_map (as_issued q) p)) (option_map (as_issued q) p) ≡ option_map (as_issued q) (cond t (Some b) p)
marked_found mark q a b p true k f = ap (λ o. option_map mark (option_map (as_issued q) o)) (f refl) ∙ ap Some k
marked_found mark q a b p false k f = refl

marked_alike : (mark : Issued → Issued) → ((i : Issued) → (mark i).id ≡ i.id) → (id : List ℕ) (a b : Asked) (m n : BTreeMap (Bor (List ℕ)) Asked)
    → ((q : List ℕ) → mark (as_issued q a) ≡ as_issued q b) → found id m.entries ≡ Some a
    → UpdatesBy (λ x y. slice_cmp nat_cmp x.now y.now) (λ k. slice_cmp nat_cmp id k.now) m n (Some b)
    → Alike (marked_as mark id (map issued_by m.entries)) (map issued_by n.entries)
marked_alike mark k id a b m n g e u = λ q.
    marked_at mark k id q (map issued_by m.entries)
    ∙ ap (λ o. cond (bytes_eq id q) (option_map mark o) o) (issued_found q m.entries)
    ∙ marked_found mark q a b (found q m.entries) (bytes_eq id q) (g q) (λ t. ap (λ i. found i m.entries) (sym (same id q t)) ∙ e)
    ∙ ap (option_map (as_issued q)) (sym (btree_map_updates_str id m n _ u q)) ∙ sym (issued_found q n.entries)

pub answered_alike : (id : List ℕ) (a : Asked) (m n : BTreeMap (Bor (List ℕ)) Asked) → found id m.entries ≡ Some a
    → UpdatesBy (λ x y. slice_cmp nat_cmp x.now y.now) (λ k. slice_cmp nat_cmp id k.now) m n (Some (record { line = a.line; answered = true; kept = a.kept }))
    → Alike (answered_as id (map issued_by m.entries)) (map issued_by n.entries)
answered_alike id a m n e u = λ q.
    ap (issued_as q) (answered_is id (map issued_by m.entries))
    ∙ marked_alike as_answered (λ i. refl) id a (record { line = a.line; answered = true; kept = a.kept }) m n (λ r. refl) e u q

pub kept_alike : (id : List ℕ) (a : Asked) (m n : BTreeMap (Bor (List ℕ)) Asked) → found id m.entries ≡ Some a
    → UpdatesBy (λ x y. slice_cmp nat_cmp x.now y.now) (λ k. slice_cmp nat_cmp id k.now) m n (Some (record { line = a.line; answered = a.answered; kept = true }))
    → Alike (kept_as id (map issued_by m.entries)) (map issued_by n.entries)
kept_alike id a m n e u = λ q.
    ap (issued_as q) (kept_is id (map issued_by m.entries))
    ∙ marked_alike as_kept (λ i. refl) id a (record { line = a.line; answered = a.answered; kept = true }) m n (λ r. refl) e u q
