-- The jobs of one tenant, those that wait and those in hand. This project's own.
use Rattle.std.specs.Prelude.{◌≡◌, ℕ, ◌++◌, ◌-◌, ◌&&◌, ◌||◌, Bool, true, false, not, cond, List, [], ◌∷◌, nat_eq, sum_by}
use Rattle.pf_base.specs.declared.plain.JobHead.{JobHead}
use Rattle.pf_query.specs.declared.job.Hand.{Hand}
use Rattle.pf_query.specs.declared.job.Held.{Held}
use Rattle.pf_query.specs.declared.job.Job.{Job}

-- the jobs that wait, first to last, and what is kept of those in hand, in the order in which they were handed out
pub record QueueData : Type 0 where
  pub waiting : List Job
  pub hands : List Hand

abbrev pub no_queue : QueueData
no_queue = record { waiting = []; hands = [] }

abbrev pub is_empty : {X : Type 0} → List X → Bool
is_empty [] = true
is_empty (x ∷ xs) = false

-- what is kept of a job in hand
abbrev pub hand_of : Held → Hand
hand_of h = record { head = h.head; actor = h.actor }

-- a job in an actor's hand
abbrev pub held_of : ℕ → Job → Held
held_of actor j = record { head = j.head; actor = actor; legs = j.legs; run = j.run; snap = j.snap }

abbrev pub tried : ℕ → JobHead → JobHead
tried tries h = record h { tries = tries }

-- the job in an actor's hand, tried so often
abbrev pub job_of_held : ℕ → Held → Job
job_of_held tries h = record { head = tried tries h.head; legs = h.legs; run = h.run; snap = h.snap }

-- whether what is said of two jobs is the same
abbrev pub is_head : JobHead → JobHead → Bool
is_head a b =
    nat_eq a.tenant b.tenant && nat_eq a.query b.query && nat_eq a.job b.job && nat_eq a.leg b.leg && nat_eq a.first b.first
    && nat_eq a.last b.last && nat_eq a.tries b.tries

abbrev pub is_hand : Hand → Hand → Bool
is_hand a b = is_head a.head b.head && nat_eq a.actor b.actor

abbrev pub has_hand : Hand → List Hand → Bool
has_hand h [] = false
has_hand h (x ∷ xs) = is_hand x h || has_hand h xs

-- these but for the first that is so
abbrev pub without_hand : Hand → List Hand → List Hand
without_hand h [] = []
without_hand h (x ∷ xs) = cond (is_hand x h) xs (x ∷ without_hand h xs)

-- whether a job, or what is kept of one in hand, is of another query
abbrev pub is_other_job : ℕ → Job → Bool
is_other_job query j = not (nat_eq j.head.query query)

abbrev pub is_other_hand : ℕ → Hand → Bool
is_other_hand query h = not (nat_eq h.head.query query)

-- how often a job may be tried still
abbrev pub tries_left_of : Job → ℕ
tries_left_of j = 5 - j.head.tries

abbrev pub tries_left_in : List Job → ℕ
tries_left_in = sum_by tries_left_of

-- the first job that waited is in an actor's hand
pub record IsHanded (old : QueueData) (actor : ℕ) (held : Held) (new : QueueData) : Type 0 where
  pub job : Job
  pub waiting : old.waiting ≡ job ∷ new.waiting
  pub held_is : held ≡ held_of actor job
  pub hands : new.hands ≡ old.hands ++ hand_of held ∷ []
