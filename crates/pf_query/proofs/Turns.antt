-- The ring of the tenants that have a job that waits, once one of them has one or has none. This project's own.
use Rattle.std.proofs.Common.{◌≡◌, ◌≢◌, ◌∙◌, ℕ, Bool, true, false, cond, not, ◌||◌, eqb, List, [], ◌∷◌, ◌++◌, refl, sym, ap, ne_eqb}
use Rattle.std.proofs.lemmas.Bool.{eq-eqb, eqb-true, eqb-false}
use Rattle.pf_queue.specs.Rings.{AreDifferent, waits, without}

-- a ring after another: a tenant is in it or isn't, and of all others it has those that were in it
pub record Turns (us vs : List ℕ) (u : ℕ) (b : Bool) : Type 0 where
  pub is_in : waits u vs ≡ b
  pub others : (v : ℕ) → v ≢ u → waits v vs ≡ waits v us
  pub different : AreDifferent vs

pub first_in : (u : ℕ) (us : List ℕ) → waits u (u ∷ us) ≡ true
first_in u us = ap (λ b. b || waits u us) (eq-eqb u u refl)

other_last : (u v : ℕ) (us : List ℕ) → v ≢ u → waits v (us ++ u ∷ []) ≡ waits v us
other_last u v [] d = ap (λ b. b || false) (ne_eqb u v (λ e. d (sym e)))
other_last u v (x ∷ us) d = ap (λ b. eqb x v || b) (other_last u v us d)

in_after_by : (b c : Bool) → c ≡ true → (b || c) ≡ true
in_after_by true c e = refl
in_after_by false c e = e

itself_last : (u : ℕ) (us : List ℕ) → waits u (us ++ u ∷ []) ≡ true
itself_last u [] = first_in u []
itself_last u (x ∷ us) = in_after_by (eqb x u) (waits u (us ++ u ∷ [])) (itself_last u us)

other_out_by :
    (u v x : ℕ) (us : List ℕ) (b : Bool) → eqb x u ≡ b → v ≢ u → waits v (without u us) ≡ waits v us
    → waits v (cond (not b) (x ∷ without u us) (without u us)) ≡ (eqb x v || waits v us)
other_out_by u v x us true e d h =
    h ∙ sym (ap (λ c. c || waits v us) (ne_eqb x v (λ k. d (sym k ∙ eqb-true x u e))))
other_out_by u v x us false e d h = ap (λ c. eqb x v || c) h

other_out : (u v : ℕ) (us : List ℕ) → v ≢ u → waits v (without u us) ≡ waits v us
other_out u v [] d = refl
other_out u v (x ∷ us) d = other_out_by u v x us (eqb x u) refl d (other_out u v us d)

gone_by : (u x : ℕ) (us : List ℕ) (b : Bool) → eqb x u ≡ b → waits u us ≡ false → waits u (cond (not b) (x ∷ us) us) ≡ false
gone_by u x us true e h = h
gone_by u x us false e h = ap (λ b. b || waits u us) e ∙ h

gone : (u : ℕ) (us : List ℕ) → waits u (without u us) ≡ false
gone u [] = refl
gone u (x ∷ us) = gone_by u x (without u us) (eqb x u) refl (gone u us)

-- who isn't in a list isn't its first, nor after it
not_first : (b c : Bool) → (b || c) ≡ false → (b ≡ false) × (c ≡ false)
not_first true c h = absurd cc
not_first false c h = (refl, h)

different_last : (u : ℕ) (us : List ℕ) → AreDifferent us → waits u us ≡ false → AreDifferent (us ++ u ∷ [])
different_last u [] d h = (refl, tt)
different_last u (x ∷ us) d h =
    let n = not_first (eqb x u) (waits u us) h in
    (other_last u x us (eqb-false x u n.0) ∙ d.0, different_last u us d.1 n.1)

different_out_by :
    (u x : ℕ) (us : List ℕ) (b : Bool) → eqb x u ≡ b → waits x us ≡ false → AreDifferent (without u us)
    → AreDifferent (cond (not b) (x ∷ without u us) (without u us))
different_out_by u x us true e h d = d
different_out_by u x us false e h d = (other_out u x us (eqb-false x u e) ∙ h, d)

different_out : (u : ℕ) (us : List ℕ) → AreDifferent us → AreDifferent (without u us)
different_out u [] d = tt
different_out u (x ∷ us) d = different_out_by u x us (eqb x u) refl d.0 (different_out u us d.1)

pub last_in : (us : List ℕ) (u : ℕ) → waits u us ≡ false → AreDifferent us → Turns us (us ++ u ∷ []) u true
last_in us u e d = record { is_in = itself_last u us; others = λ v k. other_last u v us k; different = different_last u us d e }

pub taken_out : (us : List ℕ) (u : ℕ) → AreDifferent us → Turns us (without u us) u false
taken_out us u d = record { is_in = gone u us; others = λ v k. other_out u v us k; different = different_out u us d }

-- without the first
pub first_out : (u : ℕ) (us : List ℕ) → AreDifferent (u ∷ us) → Turns (u ∷ us) us u false
first_out u us d = record {
  is_in = d.0;
  others = λ v k. sym (ap (λ b. b || waits v us) (ne_eqb u v (λ e. k (sym e))));
  different = d.1;
}

-- and with the first put last
pub first_last : (u : ℕ) (us : List ℕ) → AreDifferent (u ∷ us) → Turns (u ∷ us) (us ++ u ∷ []) u true
first_last u us d =
    let out = first_out u us d in
    let back = last_in us u out.is_in out.different in record {
      is_in = back.is_in;
      others = λ v k. back.others v k ∙ out.others v k;
      different = back.different;
    }

stays_by : (u x : ℕ) (us vs : List ℕ) (b : Bool) → (b || waits u us) ≡ false → (waits u us ≡ false → vs ≡ us) → cond (not b) (x ∷ vs) vs ≡ x ∷ us
stays_by u x us vs true h f = absurd cc
stays_by u x us vs false h f = ap (λ ws. x ∷ ws) (f h)

-- who isn't in a list is not taken out
pub without_other : (u : ℕ) (us : List ℕ) → waits u us ≡ false → without u us ≡ us
without_other u [] h = refl
without_other u (x ∷ us) h = stays_by u x us (without u us) (eqb x u) h (without_other u us)
