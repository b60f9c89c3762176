-- Jobs in hand, worked by hand. This project's own.
use Rattle.std.proofs.Common.{◌≡◌, ℕ, true, false, List, [], ◌∷◌, filter, refl}
use Rattle.pf_query.specs.Jobs.{has_hand, is_other_hand, without_hand}
use Rattle.pf_query.specs.Queueing.{put_last}
use Rattle.pf_query.specs.declared.job.Hand.{Hand}

-- of tenant 3, over one run from 1,000 to 3,000
abbrev hand : ℕ → ℕ → ℕ → ℕ → Hand
hand query job tries actor = record {
  head = record { tenant = 3; query = query; job = job; leg = 0; first = 1000; last = 3000; tries = tries };
  actor = actor;
}

abbrev three : List Hand
three = hand 7 0 0 1 ∷ hand 7 1 2 2 ∷ hand 9 0 0 1 ∷ []

is_in_hand : has_hand (hand 7 1 2 2) three ≡ true
is_in_hand = refl

-- the try before, and another actor's
was_in_hand : has_hand (hand 7 1 1 2) three ≡ false
was_in_hand = refl

others_hand : has_hand (hand 7 1 2 1) three ≡ false
others_hand = refl

released : without_hand (hand 7 1 2 2) three ≡ hand 7 0 0 1 ∷ hand 9 0 0 1 ∷ []
released = refl

not_released : without_hand (hand 7 1 1 2) three ≡ three
not_released = refl

of_other_queries : filter (is_other_hand 7) three ≡ hand 9 0 0 1 ∷ []
of_other_queries = refl

served_again : put_last 3 (5 ∷ 8 ∷ []) ≡ 5 ∷ 8 ∷ 3 ∷ []
served_again = refl
