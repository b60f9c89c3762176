-- What is kept of each query with the numbers of its jobs, and how calls change it: this project's own.
use Rattle.std.specs.Arc.{arc_value}
use Rattle.std.specs.Option.{option_map}
use Rattle.std.specs.Prelude.{◌≡◌, ℕ, ◌+◌, ◌-◌, Bool, true, false, Option, Some, None, cond, nat_eq, nat_lt, map, min}
use Rattle.pf_shard.specs.declared.parts.Part.{Part}
use Rattle.pf_query.specs.Works.{WorkData, filled, handed_out, offered}
use Rattle.pf_query.specs.declared.entry.Entry.{Entry}
use Rattle.pf_query.specs.declared.gathered.Gathered.{Gathered}
use Rattle.pf_query.specs.declared.slot.Slot.TheVariants.{Filled}
use Rattle.pf_query.specs.declared.state.EntryState.{EntryState}
use Rattle.pf_query.specs.declared.stop.Stop.{Stop}
use Rattle.pf_query.specs.declared.stop.Stop.TheVariants.{Cancelled, Exhausted}

-- why a query is stopped, where it may be already: a cancel is in place of another stop, and else the first stays
abbrev pub stop_after : Option Stop → Stop → Stop
stop_after stop (Cancelled place) = Cancelled place
stop_after None why = why
stop_after (Some first) why = first

-- the greatest number of failed tries that is counted of a query, and one more, up to it
abbrev pub most_tries : ℕ
most_tries = 18446744073709551615

abbrev pub one_more : ℕ → ℕ
one_more tried = min (tried + 1) most_tries

abbrev pub opened_entry : ℕ → Entry
opened_entry tenant = record { tenant = tenant; stop = None; work = None; queued = 0; in_hand = 0; tried = 0 }

abbrev pub planned_entry : WorkData → ℕ → Entry → Entry
planned_entry w count e = record e { work = Some w; queued = count }

abbrev pub taken_entry : Entry → Entry
taken_entry e = record e { queued = e.queued - 1; in_hand = e.in_hand + 1 }

abbrev pub back_entry : Entry → Entry
back_entry e = record e { queued = e.queued + 1; in_hand = e.in_hand - 1; tried = one_more e.tried }

abbrev pub tried_entry : Entry → Entry
tried_entry e = record e { tried = one_more e.tried }

abbrev pub stored_entry : ℕ → Part → Entry → Entry
stored_entry job part e = record e { work = option_map (filled job part) e.work; in_hand = e.in_hand - 1 }

abbrev pub stopped_entry : Stop → Entry → Entry
stopped_entry why e = record e { stop = Some (stop_after e.stop why) }

abbrev pub exhausted_entry : ℕ → Entry → Entry
exhausted_entry job e = record e { stop = Some (stop_after e.stop (Exhausted job)); tried = one_more e.tried }

abbrev pub given_entry : Entry → Entry
given_entry e = record e { work = option_map handed_out e.work }

abbrev pub offered_entry : Entry → Entry
offered_entry e = record e { work = option_map offered e.work }

-- the entry of one query is changed so
abbrev pub with_change : ℕ → (Entry → Entry) → (ℕ → Option Entry) → ℕ → Option Entry
with_change query change entries q = cond (nat_eq query q) (option_map change (entries q)) (entries q)

-- whether a job of a query may wait or be in hand, by its numbers, which are kept until it is stopped: then none waits any more
abbrev pub may_wait : Option Stop → (queued : ℕ) → Bool
may_wait None queued = nat_lt 0 queued
may_wait (Some why) queued = false

abbrev pub may_be_in_hand : Option Stop → (in_hand : ℕ) → Bool
may_be_in_hand None in_hand = nat_lt 0 in_hand
may_be_in_hand (Some why) in_hand = true

-- what is told of a query
abbrev pub is_planned : Option WorkData → Bool
is_planned None = false
is_planned (Some w) = true

abbrev pub is_given_out : Option WorkData → Bool
is_given_out None = false
is_given_out (Some w) = w.given

abbrev pub is_offered : Option WorkData → Bool
is_offered None = false
is_offered (Some w) = w.offered

abbrev pub cached_steps_of : Option WorkData → ℕ
cached_steps_of None = 0
cached_steps_of (Some w) = w.cached_steps

abbrev pub state_of : Entry → EntryState
state_of e = record {
  tenant = e.tenant;
  stop = e.stop;
  planned = is_planned e.work;
  given = is_given_out e.work;
  offered = is_offered e.work;
  cached = cached_steps_of e.work;
  queued = e.queued;
  in_hand = e.in_hand;
}

-- what is handed out of a query that is planned
pub record Gathers (w : WorkData) (g : Gathered) : Type 0 where
  pub legs_are : arc_value g.legs ≡ w.legs
  pub runs_are : g.runs.items ≡ w.runs
  pub parts_are : map (λ p. Filled p) g.parts.items ≡ w.slots
  pub cached_are : g.cached.items ≡ w.cached

abbrev pub GathersFrom : Option WorkData → Option Gathered → Type 0
GathersFrom None g = g ≡ None
GathersFrom (Some w) None = ⊥
GathersFrom (Some w) (Some g) = Gathers w g

abbrev pub GathersAt : Option Gathered → Option Entry → Type 0
GathersAt g None = g ≡ None
GathersAt g (Some e) = GathersFrom e.work g
