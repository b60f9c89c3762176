-- The links of a list, where one is taken out of it and where one is put last.
use Rattle.std.proofs.Common.{◌≡◌, ◌≢◌, ◌∙◌, ℕ, zero, suc, ◌≤◌, Bool, true, false, not, cond, eqb, List, [], ◌∷◌, ◌++◌, length, refl, sym, ap, subst, arith}
use Rattle.std.proofs.lemmas.Bool.{eq-eqb, eqb-true}
use Rattle.pf_queue.specs.Links.{Linked, at, walk}
use Rattle.pf_queue.specs.Rings.{AreDifferent, waits, without}
use Rattle.pf_queue.proofs.Lists.{all_without, differs, in_after, never_both, not_after, unequal}

nobody : (t : ℕ) → waits t [] ≡ true → ⊥
nobody t h = absurd cc

-- ---- where links lead

next_by :
    (f g : ℕ → ℕ) (y : ℕ) (l : List ℕ) (e t x : ℕ) (s : Bool) → eqb y t ≡ s → Linked f g y l e → waits t (y ∷ l) ≡ true → waits x l ≡ false → x ≢ e
    → (waits t l ≡ true → x ≢ f t) → x ≢ f t
next_by f g y [] e t x true s k w n d r z = d (z ∙ ap f (sym (eqb-true y t s)) ∙ k.0)
next_by f g y (u ∷ l) e t x true s k w n d r z = differs x u l n (z ∙ ap f (sym (eqb-true y t s)) ∙ k.0)
next_by f g y l e t x false s k w n d r z = r (in_after t y l s w) z

-- behind one of the list stands another of it or the end
pub next_differs :
    (f g : ℕ → ℕ) (b : ℕ) (l : List ℕ) (e t x : ℕ) → Linked f g b l e → waits t l ≡ true → waits x l ≡ false → x ≢ e → x ≢ f t
next_differs f g b [] e t x k w n d = absurd (nobody t w)
next_differs f g b (y ∷ l) e t x k w n d =
    next_by f g y l e t x (eqb y t) refl k.2 w (not_after x y l n) d (λ v. next_differs f g y l e t x k.2 v (not_after x y l n) d)

previous_by :
    (f g : ℕ → ℕ) (b y : ℕ) (l : List ℕ) (t x : ℕ) (s : Bool) → eqb y t ≡ s → g y ≡ b → waits t (y ∷ l) ≡ true → x ≢ b
    → (waits t l ≡ true → x ≢ g t) → x ≢ g t
previous_by f g b y l t x true s k w d r z = d (z ∙ ap g (sym (eqb-true y t s)) ∙ k)
previous_by f g b y l t x false s k w d r z = r (in_after t y l s w) z

-- and before it another or the start
pub previous_differs :
    (f g : ℕ → ℕ) (b : ℕ) (l : List ℕ) (e t x : ℕ) → Linked f g b l e → waits t l ≡ true → waits x (b ∷ l) ≡ false → x ≢ g t
previous_differs f g b [] e t x k w n = absurd (nobody t w)
previous_differs f g b (y ∷ l) e t x k w n =
    previous_by f g b y l t x (eqb y t) refl k.1 w (differs x b (y ∷ l) n) (λ v. previous_differs f g y l e t x k.2 v (not_after x b (y ∷ l) n))

back_by :
    (f g : ℕ → ℕ) (b y : ℕ) (l : List ℕ) (t : ℕ) (s : Bool) → eqb y t ≡ s → f b ≡ y → g y ≡ b → waits t (y ∷ l) ≡ true
    → (waits t l ≡ true → f (g t) ≡ t) → f (g t) ≡ t
back_by f g b y l t true s h k w r = ap (λ u. f (g u)) (sym (eqb-true y t s)) ∙ ap f k ∙ h ∙ eqb-true y t s
back_by f g b y l t false s h k w r = r (in_after t y l s w)

-- behind the one before it stands it
pub back : (f g : ℕ → ℕ) (b : ℕ) (l : List ℕ) (e t : ℕ) → Linked f g b l e → waits t l ≡ true → f (g t) ≡ t
back f g b [] e t k w = absurd (nobody t w)
back f g b (y ∷ l) e t k w = back_by f g b y l t (eqb y t) refl k.0 k.1 w (λ v. back f g y l e t k.2 v)

-- the last one
pub last_differs : (f g : ℕ → ℕ) (b : ℕ) (l : List ℕ) (e x : ℕ) → Linked f g b l e → waits x (b ∷ l) ≡ false → x ≢ g e
last_differs f g b [] e x k n z = differs x b [] n (z ∙ k.1)
last_differs f g b (y ∷ l) e x k n z = last_differs f g y l e x k.2 (not_after x b (y ∷ l) n) z

moves_by :
    (f g : ℕ → ℕ) (y : ℕ) (l : List ℕ) (e t : ℕ) (s : Bool) → eqb y t ≡ s → Linked f g y l e → waits y l ≡ false → e ≢ y → waits t (y ∷ l) ≡ true
    → (waits t l ≡ true → t ≢ f t) → t ≢ f t
moves_by f g y [] e t true s k n d w r z = d (sym (eqb-true y t s ∙ z ∙ ap f (sym (eqb-true y t s)) ∙ k.0))
moves_by f g y (u ∷ l) e t true s k n d w r z = differs y u l n (eqb-true y t s ∙ z ∙ ap f (sym (eqb-true y t s)) ∙ k.0)
moves_by f g y l e t false s k n d w r z = r (in_after t y l s w) z

-- none of the list stands behind itself
pub moves : (f g : ℕ → ℕ) (b : ℕ) (l : List ℕ) (e t : ℕ) → Linked f g b l e → AreDifferent l → waits e l ≡ false → waits t l ≡ true → t ≢ f t
moves f g b [] e t k d n w = absurd (nobody t w)
moves f g b (y ∷ l) e t k d n w =
    moves_by f g y l e t (eqb y t) refl k.2 d.0 (differs e y l n) w (λ v. moves f g y l e t k.2 d.1 (not_after e y l n) v)

-- ---- one taken out

module _ (f h g k : ℕ → ℕ) (t : ℕ) (new_next : h (g t) ≡ f t) (other_next : (u : ℕ) → u ≢ g t → u ≢ t → h u ≡ f u)
    (new_previous : k (f t) ≡ g t) (other_previous : (u : ℕ) → u ≢ f t → k u ≡ g u) where
  kept :
      (b : ℕ) (l : List ℕ) (e : ℕ) → waits (g t) (b ∷ l) ≡ false → waits t (b ∷ l) ≡ false → waits (f t) l ≡ false → e ≢ f t → Linked f g b l e
      → Linked h k b l e
  kept b [] e p s n d r =
      (other_next b (λ z. differs (g t) b [] p (sym z)) (λ z. differs t b [] s (sym z)) ∙ r.0, other_previous e d ∙ r.1)
  kept b (x ∷ l) e p s n d r = (
    other_next b (λ z. differs (g t) b (x ∷ l) p (sym z)) (λ z. differs t b (x ∷ l) s (sym z)) ∙ r.0,
    other_previous x (λ z. differs (f t) x l n (sym z)) ∙ r.1,
    kept x l e (not_after (g t) b (x ∷ l) p) (not_after t b (x ∷ l) s) (not_after (f t) x l n) d r.2,
  )

  first_taken :
      (b : ℕ) (l : List ℕ) (e : ℕ) → Linked f g b (t ∷ l) e → AreDifferent (t ∷ l) → waits b (t ∷ l) ≡ false → waits e (t ∷ l) ≡ false → Linked h k b l e
  first_taken b [] e r d n m = (ap h (sym r.1) ∙ new_next ∙ r.2.0, ap k (sym r.2.0) ∙ new_previous ∙ r.1)
  first_taken b (y ∷ l) e r d n m =
      let rest = not_after b t (y ∷ l) n in
      let after = not_after e t (y ∷ l) m in (
        ap h (sym r.1) ∙ new_next ∙ r.2.0,
        ap k (sym r.2.0) ∙ new_previous ∙ r.1,
        kept y l e (subst (λ u. waits u (y ∷ l) ≡ false) (sym r.1) rest) d.0 (subst (λ u. waits u l ≡ false) (sym r.2.0) d.1.0)
            (λ z. differs e y l after (z ∙ r.2.0)) r.2.2,
      )

  taken_by :
      (b x : ℕ) (l : List ℕ) (e : ℕ) (s : Bool) → eqb x t ≡ s → Linked f g b (x ∷ l) e → waits t (x ∷ l) ≡ true → AreDifferent (x ∷ l)
      → waits b (x ∷ l) ≡ false → waits e (x ∷ l) ≡ false
      → (waits t l ≡ true → Linked h k x (without t l) e) → Linked h k b (cond (not s) (x ∷ without t l) (without t l)) e
  taken_by b x l e true s r w d n m more =
      let same : x ≡ t = eqb-true x t s in
      let none : waits t l ≡ false = subst (λ u. waits u l ≡ false) same d.0 in
      subst (λ us. Linked h k b us e) (sym (all_without t l none))
      (first_taken b l e (subst (λ u. Linked f g b (u ∷ l) e) same r) (subst (λ u. AreDifferent (u ∷ l)) same d)
      (subst (λ u. waits b (u ∷ l) ≡ false) same n) (subst (λ u. waits e (u ∷ l) ≡ false) same m))
  taken_by b x l e false s r w d n m more =
      let inside = in_after t x l s w in (
        other_next b (previous_differs f g x l e t b r.2 inside n) (λ z. never_both (waits t (x ∷ l)) (subst (λ u. waits u (x ∷ l) ≡ false) z n) w) ∙ r.0,
        other_previous x (next_differs f g x l e t x r.2 inside d.0 (λ z. differs e x l m (sym z))) ∙ r.1,
        more inside,
      )

  pub taken :
      (b : ℕ) (l : List ℕ) (e : ℕ) → Linked f g b l e → waits t l ≡ true → AreDifferent l → waits b l ≡ false → waits e l ≡ false
      → Linked h k b (without t l) e
  taken b [] e r w d n m = absurd (nobody t w)
  taken b (x ∷ l) e r w d n m =
      taken_by b x l e (eqb x t) refl r w d n m (λ v. taken x l e r.2 v d.1 d.0 (not_after e x l m))

-- ---- one put last

module _ (f h g k : ℕ → ℕ) (t e : ℕ) (new_next : h (g e) ≡ t) (end_next : h t ≡ e) (other_next : (u : ℕ) → u ≢ g e → u ≢ t → h u ≡ f u)
    (end_previous : k e ≡ t) (new_previous : k t ≡ g e) (other_previous : (u : ℕ) → u ≢ e → u ≢ t → k u ≡ g u) where
  pub added :
      (b : ℕ) (l : List ℕ) → Linked f g b l e → AreDifferent l → waits b l ≡ false → waits e l ≡ false → waits t (b ∷ l) ≡ false
      → Linked h k b (l ++ t ∷ []) e
  added b [] r d n m o = (ap h (sym r.1) ∙ new_next, new_previous ∙ r.1, (end_next, end_previous))
  added b (x ∷ l) r d n m o = (
    other_next b (last_differs f g x l e b r.2 n) (λ z. differs t b (x ∷ l) o (sym z)) ∙ r.0,
    other_previous x (λ z. differs e x l m (sym z)) (λ z. differs t x l (not_after t b (x ∷ l) o) (sym z)) ∙ r.1,
    added x l r.2 d.1 d.0 (not_after e x l m) (not_after t b (x ∷ l) o),
  )

-- ---- the walk along them

stops : (e t : ℕ) (us : List ℕ) → t ≡ e → cond (eqb t e) [] (t ∷ us) ≡ []
stops e t us h = ap (λ b. cond b [] (t ∷ us)) (eq-eqb t e h)

goes : (e t : ℕ) (us : List ℕ) → t ≢ e → cond (eqb t e) [] (t ∷ us) ≡ t ∷ us
goes e t us h = ap (λ b. cond b [] (t ∷ us)) (unequal t e h)

pub walk_is :
    (next : List ℕ) (g : ℕ → ℕ) (b : ℕ) (l : List ℕ) (e n : ℕ) → Linked (at next) g b l e → waits e l ≡ false → length l ≤ n → walk next e (at next b) n ≡ l
walk_is next g b [] e zero r m s = refl
walk_is next g b [] e (suc n) r m s = stops e (at next b) (walk next e (at next (at next b)) n) r.0
walk_is next g b (x ∷ l) e zero r m s = absurd (omega (arith, s))
walk_is next g b (x ∷ l) e (suc n) r m s =
    ap (λ u. walk next e u (suc n)) r.0
    ∙ goes e x (walk next e (at next x) n) (λ z. differs e x l m (sym z))
    ∙ ap (λ us. x ∷ us) (walk_is next g x l e n r.2 (not_after e x l m) (omega (arith, s)))
