-- Cells cover runs: one run, and some cells, after another.
use Rattle.std.proofs.Common.{◌≡◌, ◌∙◌, ℕ, zero, suc, ◌-◌, ◌≤◌, ◌<◌, Bool, true, false, cond, List, [], ◌∷◌, ◌++◌, append_assoc, length, length-drop, drop, get_or, refl, sym, ap, subst, arith}
use Rattle.std.proofs.lemmas.Bool.{eq-eqb, ne_eqb}
use Rattle.std.specs.Prelude.{nat_eq}
use Rattle.pf_base.specs.GridLists.{GridData}
use Rattle.pf_extent.specs.declared.done.DoneCells.{DoneCells}
use Rattle.pf_model.specs.Lists.{Each}
use Rattle.pf_query.specs.Covers.{CoverMore, beyond, covers, lies_in}
use Rattle.pf_query.specs.Jobs.{is_empty}

-- ---- one run after another

pub beyond_next : (w : GridData) (rs : List GridData) (i : ℕ) (x : GridData) → i < length rs → x ≡ get_or rs i x → lies_in x w ≡ true
    → beyond w (drop (suc i) rs) ≡ beyond w (drop i rs)
beyond_next w [] i x h e f = absurd (omega (arith, h))
beyond_next w (r ∷ rs) zero x h e f = sym (ap (λ b. cond b (beyond w rs) (r ∷ rs)) (ap (λ (y : GridData). lies_in y w) (sym e) ∙ f))
beyond_next w (r ∷ rs) (suc i) x h e f = beyond_next w rs i x (omega (arith, h)) e f

pub beyond_stops : (w : GridData) (rs : List GridData) (i : ℕ) (x : GridData) → i < length rs → x ≡ get_or rs i x → lies_in x w ≡ false
    → drop i rs ≡ beyond w (drop i rs)
beyond_stops w [] i x h e f = absurd (omega (arith, h))
beyond_stops w (r ∷ rs) zero x h e f = sym (ap (λ b. cond b (beyond w rs) (r ∷ rs)) (ap (λ (y : GridData). lies_in y w) (sym e) ∙ f))
beyond_stops w (r ∷ rs) (suc i) x h e f = beyond_stops w rs i x (omega (arith, h)) e f

-- ---- some cells after another

pub covers_next : (rs new : List GridData) (ds : List DoneCells) (i : ℕ) (d : DoneCells) → i < length ds → d ≡ get_or ds i d → new ≡ beyond d.run rs
    → covers new (drop (suc i) ds) ≡ covers rs (drop i ds)
covers_next rs new [] i d h e f = absurd (omega (arith, h))
covers_next rs new (x ∷ ds) zero d h e f = ap (λ (ys : List GridData). covers ys ds) (f ∙ ap (λ (y : DoneCells). beyond y.run rs) e)
covers_next rs new (x ∷ ds) (suc i) d h e f = covers_next rs new ds i d (omega (arith, h)) e f

-- no run is left where all are passed
none_left : (rs : List GridData) (n : ℕ) → n ≤ length rs → nat_eq n (length rs) ≡ is_empty (drop n rs)
none_left rs n h = by (drop n rs) (length-drop n rs) where
  by : (xs : List GridData) → length xs ≡ length rs - n → nat_eq n (length rs) ≡ is_empty xs
  by [] e = eq-eqb n (length rs) (omega (arith, e, h))
  by (x ∷ xs) e = ne_eqb n (length rs) (λ k. absurd (omega (arith, e, k)))

drop_all : (ds : List DoneCells) (i : ℕ) → length ds ≤ i → drop i ds ≡ []
drop_all [] zero h = refl
drop_all [] (suc i) h = refl
drop_all (d ∷ ds) zero h = absurd (omega (arith, h))
drop_all (d ∷ ds) (suc i) h = drop_all ds i (omega (arith, h))

pub covers_all : (rs : List GridData) (ds : List DoneCells) (n i : ℕ) → n ≤ length rs → length ds ≤ i → covers (drop n rs) (drop i ds) ≡ covers rs ds
    → nat_eq n (length rs) ≡ covers rs ds
covers_all rs ds n i h l e = none_left rs n h ∙ ap (covers (drop n rs)) (sym (drop_all ds i l)) ∙ e

-- ---- cells in front

-- what is beyond a run is an end
beyond_end : (w : GridData) (rs : List GridData) → (pre : List GridData) × (rs ≡ pre ++ beyond w rs)
beyond_end w [] = ([], refl)
beyond_end w (r ∷ rs) = by (lies_in r w) (beyond_end w rs) where
  by : (b : Bool) → (pre : List GridData) × (rs ≡ pre ++ beyond w rs) → (pre : List GridData) × (r ∷ rs ≡ pre ++ cond b (beyond w rs) (r ∷ rs))
  by true e = (r ∷ e.0, ap (λ (xs : List GridData). r ∷ xs) e.1)
  by false e = ([], refl)

-- and of an end it is an end of what it is of all
beyond_ends : (w : GridData) (pre rs : List GridData) → (more : List GridData) × (beyond w (pre ++ rs) ≡ more ++ beyond w rs)
beyond_ends w [] rs = ([], refl)
beyond_ends w (r ∷ pre) rs = by (lies_in r w) (beyond_ends w pre rs) (beyond_end w rs) where
  by : (b : Bool) → (more : List GridData) × (beyond w (pre ++ rs) ≡ more ++ beyond w rs) → (front : List GridData) × (rs ≡ front ++ beyond w rs)
      → (more : List GridData) × (cond b (beyond w (pre ++ rs)) (r ∷ (pre ++ rs)) ≡ more ++ beyond w rs)
  by true e g = e
  by false e g = (
    r ∷ (pre ++ g.0),
    ap (λ (xs : List GridData). r ∷ (pre ++ xs)) g.1 ∙ ap (λ (xs : List GridData). r ∷ xs) (sym (append_assoc pre g.0 (beyond w rs))),
  )

-- an end of covered runs is covered
end_covered : (ds : List DoneCells) (pre rs : List GridData) → covers (pre ++ rs) ds ≡ true → covers rs ds ≡ true
end_covered [] [] rs h = h
end_covered [] (r ∷ pre) rs h = absurd (no h) where
  no : false ≡ true → ⊥
  no k = cc
end_covered (d ∷ ds) pre rs h =
    let e = beyond_ends d.run pre rs in
    end_covered ds e.0 (beyond d.run rs) (subst (λ (xs : List GridData). covers xs ds ≡ true) e.1 h)

beyond_own : (w : GridData) (own rest : List GridData) → Each (λ r. lies_in r w ≡ true) own → beyond w (own ++ rest) ≡ beyond w rest
beyond_own w [] rest h = refl
beyond_own w (r ∷ own) rest h = ap (λ b. cond b (beyond w (own ++ rest)) (r ∷ (own ++ rest))) h.0 ∙ beyond_own w own rest h.1

pub cover_more : CoverMore
cover_more own rest d ds h e =
    let f = beyond_end d.run rest in
    ap (λ (xs : List GridData). covers xs ds) (beyond_own d.run own rest h)
    ∙ end_covered ds f.0 (beyond d.run rest) (subst (λ (xs : List GridData). covers xs ds ≡ true) f.1 e)
