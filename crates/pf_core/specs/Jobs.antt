-- The jobs of a core as contracts see them, and what a job in an actor's hand stands for. This project's own.
use Rattle.std.specs.List.{count_by, sum, sum_by}
use Rattle.std.specs.Prelude.{◌≡◌, ℕ, zero, suc, ◌+◌, ◌-◌, ◌*◌, ◌/◌, ◌%◌, ◌<◌, Bool, true, not, pos, cond, nat_eq, nat_lt, Some, List, [], ◌∷◌, ◌++◌, Contains, length, replicate, slice_get, slice_index_or, slice_set}
use Rattle.pf_base.specs.GridLists.{GridData, IsGrid}
use Rattle.pf_base.specs.Grids.{points}
use Rattle.pf_base.specs.declared.plain.JobHead.{JobHead}
use Rattle.pf_base.specs.declared.plain.Limits.{Limits}
use Rattle.pf_base.specs.declared.plain.Row.{Row}
use Rattle.pf_block.specs.Snaps.{SnapData}
use Rattle.pf_core.specs.Asks.{opened_at}
use Rattle.pf_journal.specs.Machine.{Entry, Open, most_tenants}
use Rattle.pf_model.specs.Legs.{LegsData, leg_part}
use Rattle.pf_model.specs.Lists.{Each}
use Rattle.pf_model.specs.Log.{AreApart, rules_of, store_of}
use Rattle.pf_model.specs.Sharding.{legs_over}
use Rattle.pf_query.specs.Tables.{is_of, tries_with}
use Rattle.pf_query.specs.Works.{last_of}
use Rattle.pf_query.specs.declared.job.Hand.{Hand}
use Rattle.pf_shard.specs.Bound.{AreBoundOver, AreEvaluable}
use Rattle.pf_shard.specs.LegParts.{FitsNodes, part_at}
use Rattle.pf_shard.specs.Lawful.{IsLawful, ResolvedLegs, leg_count, legs_data}
use Rattle.pf_shard.specs.declared.parts.Part.{Part}
use Rattle.pf_extent.specs.declared.done.DoneCells.{DoneCells}
use Rattle.pf_model.specs.Direct.{Step}
use Rattle.pf_model.specs.Evaluation.{eval}
use Rattle.pf_model.specs.declared.cell.StepCell.TheVariants.{Good}
use Rattle.pf_results.specs.Serving.{steps_of}
use Rattle.pf_results.specs.Woven.{AreWoven}
use Rattle.pf_split.specs.Pieces.{pieces_of}
use Rattle.pf_split.specs.declared.splitting.Piece.{Piece}
use Rattle.pf_store.specs.Standing.{StandsFor}

-- ---- the jobs of tenants

-- what is said of a tenant's jobs: of those that wait, first to last, and of those in hand
pub record QueueHeads : Type 0 where
  pub waiting : List JobHead
  pub hands : List Hand

abbrev pub no_heads : QueueHeads
no_heads = record { waiting = []; hands = [] }

-- what f gives for so many numbers, from a first one on
abbrev pub numbered : {X : Type 0} → (ℕ → X) → ℕ → ℕ → List X
numbered f first zero = []
numbered f first (suc n) = f first ∷ numbered f (first + 1) n

-- the jobs of all tenants that there may be
unfoldable pub by_tenant : (ℕ → QueueHeads) → List QueueHeads
by_tenant f = numbered f 0 most_tenants

-- how many jobs are of a query
abbrev pub heads_with : ℕ → List JobHead → ℕ
heads_with query hs = count_by (is_of query) hs

-- those of other queries
abbrev pub is_other_head : ℕ → JobHead → Bool
is_other_head query h = not (nat_eq h.query query)

-- how often waiting jobs may be tried still
abbrev pub tries_of : List JobHead → ℕ
tries_of hs = sum_by (λ h. 5 - h.tries) hs

abbrev pub tries_in : List QueueHeads → ℕ
tries_in qs = sum_by (λ q. tries_of q.waiting) qs

-- how often the waiting jobs of a query were tried already
abbrev pub tries_queued : ℕ → List JobHead → ℕ
tries_queued query hs = sum_by (tries_with query) hs

-- ---- counts of failed tries

-- of 32 actors
abbrev pub no_failures : List ℕ
no_failures = replicate 32 0

-- one more of an actor; at the greatest total none
abbrev pub failures_after : List ℕ → ℕ → List ℕ
failures_after fs actor = cond (nat_lt (sum fs) 18446744073709551615) (slice_set fs actor (slice_index_or fs actor 0 + 1)) fs

-- ---- the runs of a query

-- the steps of an open query by intervals
abbrev pub pieces_in : Limits → Open → List Piece
pieces_in l o = pieces_of l.interval o.asked.query.grid.step (points o.asked.query.grid)

-- what is said of the jobs of a query over one run: one for each leg from a first one on, so many, not tried yet
abbrev pub heads_over : (tenant query number : ℕ) → GridData → (leg count : ℕ) → List JobHead
heads_over tenant query number r leg zero = []
heads_over tenant query number r leg (suc n) =
    record { tenant = tenant; query = query; job = number; leg = leg; first = r.start; last = last_of r; tries = 0 }
    ∷ heads_over tenant query (number + 1) r (leg + 1) n

-- and over its runs, from a number on, where it has so many legs: run by run and leg by leg
abbrev pub planned_heads : (tenant query number count : ℕ) → List GridData → List JobHead
planned_heads tenant query number count [] = []
planned_heads tenant query number count (r ∷ rs) =
    heads_over tenant query number r 0 count ++ planned_heads tenant query (number + count) count rs

-- ---- what jobs and parts stand for

-- the legs of a query over so many shards
abbrev pub legs_asked : (shards : ℕ) → Open → LegsData
legs_asked shards o = record { query = o.asked.query.tree; nodes = legs_over o.asked.query.tree shards; shards = shards }

-- legs over a snapshot are those of a query, over the samples that its tenant had at the ask
pub record IsLegsOf (l : Limits) (at : Open) (legs : ResolvedLegs) (snap : SnapData) : Type 0 where
  pub legs_are : legs_data legs ≡ legs_asked l.shards at
  pub lawful : IsLawful (legs_data legs)
  pub bound : AreBoundOver legs snap.labels
  pub stands : StandsFor snap (store_of (rules_of l) at.log).samples
  pub apart : AreApart (store_of (rules_of l) at.log).samples

-- a run of a grid's steps
pub record IsRunOf (grid run : GridData) : Type 0 where
  pub lawful : IsGrid run
  pub step : run.step ≡ grid.step
  pub among : (t : ℕ) → Contains (points run) t → Contains (points grid) t

-- a step's cell is what a query is there, without error, over the samples that its tenant had at the ask
abbrev pub IsValueAt : Limits → Open → Step → Type 0
IsValueAt l o s = eval (store_of (rules_of l) o.log).samples o.asked.query.tree (pos s.time) ≡ Good s.elements

-- cached cells and these runs have each step of a query once, piece by piece; the cells are the query's. An instant query has no
-- cells, and its grid is its one run.
pub record AreDivided (l : Limits) (o : Open) (cached : List DoneCells) (runs : List GridData) : Type 0 where
  pub woven : AreWoven (pieces_in l o) cached runs
  pub each : Each (IsRunOf o.asked.query.grid) runs
  pub values : Each (IsValueAt l o) (steps_of cached)
  pub alone : o.asked.instant ≡ true → (cached ≡ []) × (runs ≡ o.asked.query.grid ∷ [])

-- these are the runs of a query's steps, but for those of some cells
pub record AreRunsOf (l : Limits) (o : Open) (runs : List GridData) : Type 0 where
  pub others : List DoneCells
  pub woven : AreWoven (pieces_in l o) others runs
  pub each : Each (IsRunOf o.asked.query.grid) runs
  pub alone : o.asked.instant ≡ true → runs ≡ o.asked.query.grid ∷ []

-- a job is about a run and one of so many legs of a query
pub record IsJobOf (at : Open) (count : ℕ) (head : JobHead) (run : GridData) : Type 0 where
  pub tenant : head.tenant ≡ at.tenant
  pub leg : head.leg < count
  pub run_is : IsRunOf at.asked.query.grid run
  pub first : head.first ≡ run.start
  pub last : head.last ≡ last_of run

-- a part is what a leg is over a run
abbrev pub IsValueOver : List Row → LegsData → (leg : ℕ) → GridData → Part → Type 0
IsValueOver samples legs leg run part =
    (k : ℕ) → k < run.len → part_at part k ≡ leg_part samples legs leg (pos (run.start + k * run.step))

-- legs, a run and a snapshot are those of a job of the query that an entry of the journal asked
pub record IsForAsk (journal : List Entry) (l : Limits) (head : JobHead) (legs : ResolvedLegs) (run : GridData) (snap : SnapData) : Type 0 where
  pub at : Open
  pub asked : opened_at journal head.query ≡ Some at
  pub legs_of : IsLegsOf l at legs snap
  pub job_of : IsJobOf at (leg_count (legs_data legs)) head run

-- cells that were cached and runs divide a query's steps, and legs and parts are those of the runs, run by run and leg by leg
pub record AreParts (l : Limits) (at : Open) (legs : ResolvedLegs) (cached : List DoneCells) (runs : List GridData) (parts : List Part) : Type 0 where
  pub legs_are : legs_data legs ≡ legs_asked l.shards at
  pub lawful : IsLawful (legs_data legs)
  pub evaluable : AreEvaluable legs.resolved
  pub divided : AreDivided l at cached runs
  pub many : length parts ≡ length runs * leg_count (legs_data legs)
  pub fits : Each (FitsNodes legs.nodes) parts
  pub values : (i : ℕ) (run : GridData) (part : Part) → slice_get runs (i / leg_count (legs_data legs)) ≡ Some run → slice_get parts i ≡ Some part
      → IsValueOver (store_of (rules_of l) at.log).samples (legs_data legs) (i % leg_count (legs_data legs)) run part
