-- Worked examples of lines that follow those before them, computed.
use Rattle.std.proofs.Common.{◌≡◌, ℕ, List, [], ◌∷◌, refl, ap, codes, get_or, arith}
use Rattle.pf_journal.specs.Scripts.{Line, Numbered, ask, instant, cancel, answer, plan, keep}
use Rattle.pf_script.specs.Lines.{AllFollow, Follows}

abbrev line : ℕ → Line → Numbered
line n l = record { number = n; line = l }

abbrev asked : Line
asked = ask (codes "q") (codes "acme") 0 1 1 (codes "up")

abbrev asked_at_once : Line
asked_at_once = instant (codes "r") (codes "acme") 1 (codes "up")

-- an ask that is kept, and an instant query that is answered
followed : AllFollow [] (line 2 asked ∷ line 4 asked_at_once ∷ line 5 (keep (codes "q") 2) ∷ line 6 (answer (codes "r") 4) ∷ line 7 (plan (codes "q") 2) ∷ [])
followed = (
  record { first = omega arith; rising = tt; names = tt; is_open = tt },
  (
    record { first = omega arith; rising = (omega arith, tt); names = tt; is_open = tt },
    (
      record { first = omega arith; rising = (omega arith, (omega arith, tt)); names = refl; is_open = ((λ x. x, (λ x. x, tt)), (λ x. x, (λ x. x, tt))) },
      (
        record { first = omega arith; rising = (omega arith, (omega arith, (omega arith, tt))); names = refl; is_open = (λ x. x, (λ x. x, (λ x. x, tt))) },
        (
          record {
            first = omega arith;
            rising = (omega arith, (omega arith, (omega arith, (omega arith, tt))));
            names = refl;
            is_open = (λ x. x, (λ x. x, (λ x. x, (λ x. omega (arith, x), tt))));
          },
          tt,
        ),
      ),
    ),
  ),
)

-- no second keep
kept_twice : (n : ℕ) → Follows (line 2 asked ∷ line 3 (keep (codes "q") 2) ∷ []) (line n (keep (codes "q") 2)) → ⊥
kept_twice n f = f.is_open.1.1.0 refl

-- no plan behind the answer
planned_after : (n : ℕ) → Follows (line 2 asked ∷ line 3 (answer (codes "q") 2) ∷ []) (line n (plan (codes "q") 2)) → ⊥
planned_after n f = f.is_open.1.0 refl

-- no line that names another's ID
named_otherwise : (n : ℕ) → Follows (line 2 asked ∷ []) (line n (cancel (codes "r") 2 (codes "acme"))) → ⊥
named_otherwise n f = let e : ◌≡◌ {A = ℕ} 113 114 = ap (λ (xs : List ℕ). get_or xs 0 0) f.names in absurd (omega arith)
