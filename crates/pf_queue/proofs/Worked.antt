-- Rings, worked by hand: of four places the last is that of the ends.
use Rattle.std.proofs.Common.{◌≡◌, ◌∷◌, [], true, false, refl}
use Rattle.pf_queue.specs.Links.{next_with, next_without, previous_with, previous_without, waiting_of}
use Rattle.pf_queue.specs.Rings.{waits, without}
use Rattle.pf_queue.specs.Turns.{add, take, leave, is_first, served}

nobody : waiting_of (0 ∷ 1 ∷ 2 ∷ 3 ∷ []) 3 ≡ []
nobody = refl

two_and_none : waiting_of (3 ∷ 1 ∷ 0 ∷ 2 ∷ []) 3 ≡ 2 ∷ 0 ∷ []
two_and_none = refl

one_put_last : next_with (3 ∷ 1 ∷ 0 ∷ 2 ∷ []) (2 ∷ 1 ∷ 3 ∷ 0 ∷ []) 3 1 ≡ 1 ∷ 3 ∷ 0 ∷ 2 ∷ []
one_put_last = refl

all_wait : waiting_of (1 ∷ 3 ∷ 0 ∷ 2 ∷ []) 3 ≡ 2 ∷ 0 ∷ 1 ∷ []
all_wait = refl

before_them : previous_with (2 ∷ 1 ∷ 3 ∷ 0 ∷ []) 3 1 ≡ 2 ∷ 0 ∷ 3 ∷ 1 ∷ []
before_them = refl

middle_out : waiting_of (next_without (1 ∷ 3 ∷ 0 ∷ 2 ∷ []) (2 ∷ 0 ∷ 3 ∷ 1 ∷ []) 0) 3 ≡ 2 ∷ 1 ∷ []
middle_out = refl

before_the_last : previous_without (1 ∷ 3 ∷ 0 ∷ 2 ∷ []) (2 ∷ 0 ∷ 3 ∷ 1 ∷ []) 0 ≡ 2 ∷ 2 ∷ 3 ∷ 1 ∷ []
before_the_last = refl

the_others : without 0 (2 ∷ 0 ∷ 1 ∷ []) ≡ 2 ∷ 1 ∷ []
the_others = refl

is_there : waits 0 (2 ∷ 0 ∷ 1 ∷ []) ≡ true
is_there = refl

is_gone : waits 0 (2 ∷ 1 ∷ []) ≡ false
is_gone = refl

-- the first is taken and put in again behind the others, then the one after it
once : served 2 (take ∷ add 2 ∷ take ∷ []) (2 ∷ 0 ∷ 1 ∷ []) ≡ 1
once = refl

-- where nobody else waits, it is taken each time
each_time : served 2 (take ∷ add 2 ∷ take ∷ []) (2 ∷ []) ≡ 2
each_time = refl

one_that_left : served 0 (leave 0 ∷ take ∷ take ∷ []) (2 ∷ 0 ∷ 1 ∷ []) ≡ 0
one_that_left = refl

the_first : is_first 2 (2 ∷ 0 ∷ []) ≡ true
the_first = refl
