-- The replies to step lines, as the definitions say them. This project's own.
use Rattle.std.specs.Prelude.{ℕ, List, [], ◌∷◌, codes}
use Rattle.std.specs.Fmt.{decimal}
use Rattle.pf_journal.specs.Replies.{reply_line}
use Rattle.pf_journal.specs.Steps as steps
use Rattle.pf_report.specs.declared.steps.DoneReply.{DoneReply}
use Rattle.pf_report.specs.declared.steps.DoneReply.TheVariants as done
use Rattle.pf_report.specs.declared.steps.KeepReply.{KeepReply}
use Rattle.pf_report.specs.declared.steps.KeepReply.TheVariants as keep
use Rattle.pf_report.specs.declared.steps.PlanReply.{PlanReply}
use Rattle.pf_report.specs.declared.steps.PlanReply.TheVariants as plan
use Rattle.pf_report.specs.declared.steps.Stop.{Stop}
use Rattle.pf_report.specs.declared.steps.Stop.TheVariants as stop
use Rattle.pf_report.specs.declared.steps.TakeReply.{TakeReply}
use Rattle.pf_report.specs.declared.steps.TakeReply.TheVariants as take

abbrev pub stop_of : Stop → steps.Stop
stop_of (stop.Cancelled place) = steps.by_cancel place
stop_of (stop.Exhausted job) = steps.by_tries job
stop_of stop.Starved = steps.by_memory

abbrev pub plan_of : PlanReply → steps.PlanReply
plan_of (plan.Planned cached jobs) = steps.planned cached jobs
plan_of plan.PlannedBefore = steps.planned_before
plan_of plan.Stopped = steps.plan_stopped
plan_of plan.Refused = steps.plan_refused

abbrev pub take_of : TakeReply → steps.TakeReply
take_of (take.Took tenant query job leg first last) = steps.took query job leg first last
take_of take.NoneWaits = steps.none_waits
take_of take.Busy = steps.busy

-- what a `take` is told, with the name of the tenant that asked the job's query
abbrev pub take_words : TakeReply → List (List ℕ)
take_words (take.Took tenant query job leg first last) =
    tenant.now ∷ codes "query" ∷ decimal query ∷ codes "job" ∷ decimal job ∷ codes "leg" ∷ decimal leg
    ∷ codes "first" ∷ decimal first ∷ codes "last" ∷ decimal last ∷ []
take_words take.NoneWaits = codes "none" ∷ []
take_words take.Busy = codes "busy" ∷ []

abbrev pub take_text : (n worker : ℕ) → TakeReply → List ℕ
take_text n worker reply = reply_line n (codes "take") (decimal worker) (take_words reply)

abbrev pub done_of : DoneReply → steps.DoneReply
done_of done.Stored = steps.stored
done_of (done.Again tries) = steps.again tries
done_of (done.Exhausted job) = steps.exhausted job
done_of done.Lacked = steps.lacked
done_of (done.Gone why) = steps.gone (stop_of why)
done_of done.NotHeld = steps.not_held
done_of done.Empty = steps.empty

abbrev pub keep_of : KeepReply → steps.KeepReply
keep_of (keep.Kept count) = steps.kept count
keep_of (keep.Outdated generation) = steps.outdated generation
keep_of keep.Lacked = steps.keep_lacked
keep_of keep.Failed = steps.keep_failed
keep_of (keep.Waits jobs) = steps.keep_waits jobs
keep_of keep.Stopped = steps.keep_stopped
keep_of keep.Refused = steps.keep_refused
keep_of keep.Unplanned = steps.unplanned
