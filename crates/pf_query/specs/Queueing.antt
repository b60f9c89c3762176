-- The queues of all tenants, as contracts see them: the jobs that wait and those in hand by tenant, and the ring of the tenants that
-- have a job that waits. This project's own.
use Rattle.std.specs.Prelude.{◌≡◌, ℕ, ◌+◌, ◌-◌, ◌<◌, true, not, cond, List, [], ◌∷◌, ◌++◌, MatchOption, Option, filter, length, slice_index_or, sum_by}
use Rattle.pf_journal.specs.Machine.{most_tenants}
use Rattle.pf_queue.specs.Rings.{AreDifferent, waits, without}
use Rattle.pf_query.specs.Jobs.{QueueData, hand_of, held_of, is_empty, is_other_hand, is_other_job, job_of_held, no_queue, tries_left_in, without_hand}
use Rattle.pf_query.specs.declared.job.Hand.{Hand}
use Rattle.pf_query.specs.declared.job.Held.{Held}
use Rattle.pf_query.specs.declared.job.Job.{Job}
use Rattle.pf_query.specs.declared.queues.Queues.{Queues}

-- a tenant's queue; beyond the tenants there is none
abbrev pub queue_in : Queues → ℕ → QueueData
queue_in q u = slice_index_or q.by_tenant.items u no_queue

-- the jobs of a tenant that wait, first to last
abbrev pub waiting_in : Queues → ℕ → List Job
waiting_in q u = (queue_in q u).waiting

-- what is kept of a tenant's jobs in hand, in the order in which they were handed out
abbrev pub hands_in : Queues → ℕ → List Hand
hands_in q u = (queue_in q u).hands

-- the tenants with a job that waits, in the order in which they are served
abbrev pub ring_in : Queues → List ℕ
ring_in q = q.ring.waiting

-- how often the jobs that wait may be tried still, all together
abbrev pub tries_left : Queues → ℕ
tries_left q = sum_by (λ d. tries_left_in d.waiting) q.by_tenant.items

-- each tenant with a job that waits is in the ring once, and no other is
pub record AreQueues (q : Queues) : Type 0 where
  pub many : length q.by_tenant.items ≡ most_tenants
  pub places : q.ring.capacity ≡ most_tenants
  pub in_ring : (u : ℕ) → waits u (ring_in q) ≡ not (is_empty (waiting_in q u))
  pub different : AreDifferent (ring_in q)
  pub known : (u : ℕ) → waits u (ring_in q) ≡ true → u < most_tenants

-- a tenant's jobs are as they were
pub record IsSameQueue (old new : Queues) (u : ℕ) : Type 0 where
  pub waiting : waiting_in new u ≡ waiting_in old u
  pub hands : hands_in new u ≡ hands_in old u

-- nothing is changed
pub record AreSame (old new : Queues) : Type 0 where
  pub queues : (u : ℕ) → IsSameQueue old new u
  pub ring : ring_in new ≡ ring_in old

-- a tenant's jobs and the ring are these, and all else is as it was
pub record AreWith (old : Queues) (u : ℕ) (jobs : List Job) (held : List Hand) (order : List ℕ) (new : Queues) : Type 0 where
  pub waiting : waiting_in new u ≡ jobs
  pub hands : hands_in new u ≡ held
  pub others : (v : ℕ) → (v ≡ u → ⊥) → IsSameQueue old new v
  pub ring : ring_in new ≡ order

-- a tenant is put last in the ring
abbrev pub put_last : ℕ → List ℕ → List ℕ
put_last u us = us ++ u ∷ []

-- no tenant has a job
pub record AreEmpty (q : Queues) : Type 0 where
  pub waiting : (u : ℕ) → waiting_in q u ≡ []
  pub hands : (u : ℕ) → hands_in q u ≡ []
  pub ring : ring_in q ≡ []
  pub tries : tries_left q ≡ 0

-- jobs of a tenant wait behind its others
abbrev pub AreAdded : Queues → ℕ → List Job → Queues → Type 0
AreAdded old u jobs new =
    AreWith old u (waiting_in old u ++ jobs) (hands_in old u)
    (cond (is_empty jobs) (ring_in old) (cond (is_empty (waiting_in old u)) (put_last u (ring_in old)) (ring_in old))) new

-- the first tenant's first job went into an actor's hand, and the tenant is last if it has more
pub record IsTaken (old : Queues) (actor : ℕ) (held : Held) (new : Queues) : Type 0 where
  pub tenant : ℕ
  pub tenants : List ℕ
  pub job : Job
  pub jobs : List Job
  pub ring : ring_in old ≡ tenant ∷ tenants
  pub waiting : waiting_in old tenant ≡ job ∷ jobs
  pub held_is : held ≡ held_of actor job
  pub left : AreWith old tenant jobs (hands_in old tenant ++ hand_of held ∷ []) (cond (is_empty jobs) tenants (put_last tenant tenants)) new

-- where no tenant is in the ring, nothing is changed
abbrev pub Takes : Queues → ℕ → Option Held → Queues → Type 0
Takes old actor taken new = MatchOption taken ((ring_in old ≡ []) × AreSame old new) (λ held. IsTaken old actor held new)

-- a job's further tries are those of the jobs that wait no more
abbrev pub TakesTries : Queues → Option Held → Queues → Type 0
TakesTries old taken new =
    MatchOption taken (tries_left new ≡ tries_left old) (λ held. tries_left new + (5 - held.head.tries) ≡ tries_left old)

-- a job is in hand no more
abbrev pub IsReleased : Queues → Held → Queues → Type 0
IsReleased old held new =
    let u : ℕ = held.head.tenant in
    AreWith old u (waiting_in old u) (without_hand (hand_of held) (hands_in old u)) (ring_in old) new

-- and waits last of its tenant's, tried once more
abbrev pub IsPutBack : Queues → Held → Queues → Type 0
IsPutBack old held new =
    let u : ℕ = held.head.tenant in
    AreWith old u (waiting_in old u ++ job_of_held (held.head.tries + 1) held ∷ []) (without_hand (hand_of held) (hands_in old u))
    (cond (is_empty (waiting_in old u)) (put_last u (ring_in old)) (ring_in old)) new

-- a tenant has no job of a query that waits; it leaves the ring where it has none at all
abbrev pub AreNotWaiting : Queues → ℕ → ℕ → Queues → Type 0
AreNotWaiting old u query new =
    let left : List Job = filter (is_other_job query) (waiting_in old u) in
    AreWith old u left (hands_in old u) (cond (is_empty left) (without u (ring_in old)) (ring_in old)) new

-- a tenant has no job of a query in hand
abbrev pub AreNotInHand : Queues → ℕ → ℕ → Queues → Type 0
AreNotInHand old u query new = AreWith old u (waiting_in old u) (filter (is_other_hand query) (hands_in old u)) (ring_in old) new
