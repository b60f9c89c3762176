-- How often jobs may be tried, after each answer of the table.
use Rattle.std.proofs.Common.{◌≡◌, ℕ, ◌≤◌, Option, Some, None, List, sym, ap, ◌∙◌, arith}
use Rattle.std.specs.Prelude.{MatchOption}
use Rattle.pf_query.specs.Jobs.{hand_of, without_hand}
use Rattle.pf_shard.specs.declared.parts.Part.{Part}
use Rattle.pf_query.specs.Tables as table
use Rattle.pf_query.specs.Tables.{EntryData, IsSameTable, IsTable, Stops, entry_in, hands_of}
use Rattle.pf_query.specs.declared.answers.Collected.{Collected}
use Rattle.pf_query.specs.declared.answers.Collected.TheVariants as collected
use Rattle.pf_query.specs.declared.answers.FailedTry.{FailedTry}
use Rattle.pf_query.specs.declared.answers.FailedTry.TheVariants as failed
use Rattle.pf_query.specs.declared.answers.Finished.{Finished}
use Rattle.pf_query.specs.declared.answers.Finished.TheVariants as finished
use Rattle.pf_query.specs.declared.job.Hand.{Hand}
use Rattle.pf_query.specs.declared.job.Held.{Held}
use Rattle.pf_query.specs.declared.table.Table.{Table}
use Rattle.pf_query.specs.declared.stop.Stop.TheVariants.{Starved}
use Rattle.pf_core.specs.Calls.{TriesAfter, counted}
use Rattle.pf_core.specs.Cores.{CoreData}
use Rattle.pf_core.specs.Jobs.{by_tenant, tries_in}
use Rattle.pf_core.specs.States.{heads_in}
use Rattle.pf_core.proofs.Tenanted.{tries_table}

-- ---- how often jobs may be tried still

-- what a core tells of a table
abbrev tries_all : Table → ℕ
tries_all t = tries_in (by_tenant (heads_in t))

tries_as : (old new : Table) → IsTable old → IsTable new → table.tries_left_of new ≡ table.tries_left_of old → tries_all new ≡ tries_all old
tries_as old new h t e = tries_table new t ∙ e ∙ sym (tries_table old h)

tries_most : (old new : Table) → IsTable old → IsTable new → table.tries_left_of new ≤ table.tries_left_of old → tries_all new ≤ tries_all old
tries_most old new h t e = let now = tries_table new t in let was = tries_table old h in omega (arith, e, now, was)

collected_tries : (old new : Table) (query : ℕ) (d : EntryData) (c : Collected) → table.IsCollectedOf old query d c new
    → table.tries_left_of new ≡ table.tries_left_of old
collected_tries old new query d (collected.Stopped why) x = x.1.tries
collected_tries old new query d collected.Unplanned x = x.2.tries
collected_tries old new query d (collected.Waiting queued in_hand) x = x.5.tries
collected_tries old new query d collected.Given x = x.5.tries
collected_tries old new query d (collected.Parts g) x = x.5.tries

pub collect_tries : (old new : Table) (query : ℕ) (c : Option Collected) → IsTable old → IsTable new → table.IsCollected old query c new
    → tries_in (by_tenant (heads_in new)) ≡ tries_in (by_tenant (heads_in old))
collect_tries old new query None h t x = tries_as old new h t x.1.tries
collect_tries old new query (Some c) h t x = tries_as old new h t (collected_tries old new query x.0 c x.2)

pub finished_tries : (old new : Table) (held : Held) (part : Part) (answer : Finished) → IsTable old → IsTable new
    → table.IsFinished old held part answer new → tries_in (by_tenant (heads_in new)) ≡ tries_in (by_tenant (heads_in old))
finished_tries old new held part finished.Stored h t x = tries_as old new h t x.tries
finished_tries old new held part (finished.Gone why) h t x = tries_as old new h t x.tries
finished_tries old new held part finished.NotHeld h t x = tries_as old new h t x.same.tries

pub failed_tries : (c d : CoreData) (old new : Table) (held : Held) (answer : FailedTry) → c.queues ≡ by_tenant (heads_in old) → d.queues ≡ by_tenant (heads_in new)
    → IsTable old → IsTable new → table.IsFailed old held answer new → TriesAfter c answer d
failed_tries c d old new held (failed.Again tries) ec ed h t x =
    let all = x.tries_left in
    let now = ap tries_in ed ∙ tries_table new t in
    let was = ap tries_in ec ∙ tries_table old h in
    omega (arith, all, now, was)
failed_tries c d old new held (failed.Exhausted job) ec ed h t x =
    let less = tries_most old new h t x.tries in let now = ap tries_in ed in let was = ap tries_in ec in omega (arith, less, now, was)
failed_tries c d old new held (failed.Gone why) ec ed h t x =
    let same = tries_as old new h t x.tries in let now = ap tries_in ed in let was = ap tries_in ec in omega (arith, same, now, was)
failed_tries c d old new held failed.NotHeld ec ed h t x =
    let same = tries_as old new h t x.same.tries in let now = ap tries_in ed in let was = ap tries_in ec in omega (arith, same, now, was)

lacking_tries : (old new : Table) (query : ℕ) (hands : EntryData → List Hand) (entry : Option EntryData)
    → MatchOption entry (IsSameTable old new) (λ d. Stops old query Starved d (hands d) new) → table.tries_left_of new ≤ table.tries_left_of old
lacking_tries old new query hands None x = let same = x.tries in omega (arith, same)
lacking_tries old new query hands (Some d) x = x.tries

pub lacked_tries : (old new : Table) (held : Held) → IsTable old → IsTable new → table.IsLacking old held new
    → tries_in (by_tenant (heads_in new)) ≤ tries_in (by_tenant (heads_in old))
lacked_tries old new held h t x =
    tries_most old new h t (lacking_tries old new held.head.query (λ d. without_hand (hand_of held) (hands_of old d.tenant)) (entry_in old held.head.query) x)

-- of a core in which a try is counted
pub tries_counted : (c : CoreData) (actor : ℕ) (answer : FailedTry) (new : CoreData) → TriesAfter (counted c actor) answer new → TriesAfter c answer new
tries_counted c actor (failed.Again tries) new h = h
tries_counted c actor (failed.Exhausted job) new h = h
tries_counted c actor (failed.Gone why) new h = h
tries_counted c actor failed.NotHeld new h = h
