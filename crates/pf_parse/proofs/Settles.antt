-- What is open takes an operand one frame at a time.
use Rattle.std.proofs.Common.{◌≡◌, sym, refl, ap, ℕ, true, false, cond, List, [], ◌∷◌}
use Rattle.pf_parse.specs.Held.{Held, held_binary}
use Rattle.pf_parse.specs.Reading.{Frame, signed, left, bracket, calling, settle}
use Rattle.pf_parse.specs.Stacks.{IsTaker, takes, taken}

never : {A : Type 0} → true ≡ false → A
never h = absurd (not_so h)
  where
    not_so : true ≡ false → ⊥
    not_so h = cc

pub settle_takes : (l : ℕ) (e : Held) (f : Frame) (k : List Frame) → takes l (f ∷ k) ≡ true
    → settle l (taken f e) k ≡ settle l e (f ∷ k)
settle_takes l e (signed minus) k h = refl
settle_takes l e (left op m a) k h =
    sym (ap (λ b. cond b (settle l (held_binary op m a e) k) (record { held = e; stack = left op m a ∷ k })) h)
settle_takes l e bracket k h = never (sym h)
settle_takes l e (calling c args) k h = never (sym h)

pub settle_stays : (l : ℕ) (e : Held) (k : List Frame) → takes l k ≡ false → settle l e k ≡ record { held = e; stack = k }
settle_stays l e [] h = refl
settle_stays l e (signed minus ∷ k) h = never h
settle_stays l e (left op m a ∷ k) h =
    ap (λ b. cond b (settle l (held_binary op m a e) k) (record { held = e; stack = left op m a ∷ k })) h
settle_stays l e (bracket ∷ k) h = refl
settle_stays l e (calling c args ∷ k) h = refl

pub taker : (l : ℕ) (f : Frame) (k : List Frame) → takes l (f ∷ k) ≡ true → IsTaker f
taker l (signed minus) k h = tt
taker l (left op m a) k h = tt
taker l bracket k h = never (sym h)
taker l (calling c args) k h = never (sym h)
