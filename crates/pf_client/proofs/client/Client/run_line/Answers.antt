use Rattle.std.proofs.Common.{rules, refl, subst, sym, ◌+◌, ℕ, IfOk, OnOk}
use Rattle.std.proofs.Math.Seq.{map-set_same}
use Rattle.pf_journal.specs.Scripts.{Numbered}
use Rattle.pf_script.specs.Lines.{line_of}
use Rattle.pf_script.specs.declared.script.Line.{Line}
use Rattle.pf_client.specs.Going.{GoesOnWith}
use Rattle.pf_client.specs.Tallies.{CountsNothing}
use Rattle.pf_client.specs.declared.client.LineRun.{LineRun}
use Rattle.pf_client.specs.declared.client.LineRun.TheVariants as run
use Rattle.pf_client.proofs.Driving.{answer_goes, ask_goes, asked_all, plain_goes_if, quiet_goes}
use Rattle.pf_client.proofs.StepLines.{holds_if, holds_on}
use Rattle.pf_client.proofs.Cases.{if_ok_map, if_ok_two}
use Rattle.pf_client.proofs.Tallying.{ask_counts_if, plain_counts_if, quiet_counts}
use Rattle.pf_client.proofs.client.Client.run_line.Goals as goal

abbrev numbered : ℕ → Line → Numbered
numbered n l = record { number = n; line = line_of l }

pub returns-in-Ingest-clause-runs : goal.returns-in-Ingest-clause-runs
returns-in-Ingest-clause-runs g c =
    subst (λ (l : Line). IfOk c.ingest.result (λ (r : LineRun). GoesOnWith c.args.loaded.now c.args.self.now (numbered c.args.line.now.number l) r c.ingest.new.self)) (sym c.in-Ingest.is)
    (plain_goes_if c.args.loaded.now c.args.self.now c.ingest.new.self _ c.ingest.result c.ingest.ensures.client tt (λ id a. a)
    (if_ok_map _ _ c.ingest.result (λ r h known told. h known told.held) c.ingest.ensures.runs) c.ingest.ensures.slots)

pub returns-in-Delete-clause-runs : goal.returns-in-Delete-clause-runs
returns-in-Delete-clause-runs g c =
    subst (λ (l : Line). IfOk c.delete.result (λ (r : LineRun). GoesOnWith c.args.loaded.now c.args.self.now (numbered c.args.line.now.number l) r c.delete.new.self)) (sym c.in-Delete.is)
    (plain_goes_if c.args.loaded.now c.args.self.now c.delete.new.self _ c.delete.result c.delete.ensures.client tt (λ id a. a)
    (if_ok_map _ _ c.delete.result (λ r h known told. h known told.right) c.delete.ensures.runs) c.delete.ensures.slots)

pub returns-in-Ask-clause-runs : goal.returns-in-Ask-clause-runs
returns-in-Ask-clause-runs g c =
    subst (λ (l : Line). IfOk c.ask.result (λ (r : LineRun). GoesOnWith c.args.loaded.now c.args.self.now (numbered c.args.line.now.number l) r c.ask.new.self)) (sym c.in-Ask.is)
    (if_ok_two _ _ _ c.ask.result (λ r same h. λ first part. ask_goes first c.args.self.now c.ask.new.self _ r _ _ same (refl, refl) tt refl (λ known told. h known (part known told).readings))
    c.ask.ensures.client c.ask.ensures.runs)

pub returns-in-Instant-clause-runs : goal.returns-in-Instant-clause-runs
returns-in-Instant-clause-runs g c =
    subst (λ (l : Line). IfOk c.instant.result (λ (r : LineRun). GoesOnWith c.args.loaded.now c.args.self.now (numbered c.args.line.now.number l) r c.instant.new.self)) (sym c.in-Instant.is)
    (if_ok_two _ _ _ c.instant.result (λ r same h. λ first part. ask_goes first c.args.self.now c.instant.new.self _ r _ _ same (refl, refl) tt refl (λ known told. h known (part known told).readings))
    c.instant.ensures.client c.instant.ensures.runs)

pub returns-in_ok-cancel-in-Cancel-clause-runs : goal.returns-in_ok-cancel-in-Cancel-clause-runs
returns-in_ok-cancel-in-Cancel-clause-runs g c =
    subst (λ (l : Line). GoesOnWith c.args.loaded.now c.args.self.now (numbered c.args.line.now.number l) run.On c.cancel.new.self) (sym c.in-Cancel.is)
    (λ first part. quiet_goes first c.args.self.now c.cancel.new.self _ (search rules) c.in_ok-cancel-in-Cancel.ensures.grows tt (λ id a. a)
    (λ known above hands done k alone have kept hs follows.
    c.in_ok-cancel-in-Cancel.ensures.step known above hands k alone (have.right c.in-Cancel.asked _ follows.names)) (search rules))

pub returns-in_ok-answer-in-Answer-clause-runs : goal.returns-in_ok-answer-in-Answer-clause-runs
returns-in_ok-answer-in-Answer-clause-runs g c =
    subst (λ (l : Line). GoesOnWith c.args.loaded.now c.args.self.now (numbered c.args.line.now.number l) run.On c.answer.new.self) (sym c.in-Answer.is)
    (λ first part. answer_goes first c.args.self.now c.answer.new.self _ c.in-Answer.asked _ (search rules) c.in_ok-answer-in-Answer.ensures.grows c.in_ok-answer-in-Answer.ensures.step)

pub returns-in_ok-plan-in-Plan-clause-runs : goal.returns-in_ok-plan-in-Plan-clause-runs
returns-in_ok-plan-in-Plan-clause-runs g c =
    subst (λ (l : Line). GoesOnWith c.args.loaded.now c.args.self.now (numbered c.args.line.now.number l) run.On c.plan.new.self) (sym c.in-Plan.is)
    (λ first part. quiet_goes first c.args.self.now c.plan.new.self _ (search rules) c.in_ok-plan-in-Plan.ensures.grows tt (λ id a. a)
    (λ known above hands done k alone have kept hs follows.
    c.in_ok-plan-in-Plan.ensures.step known above hands k alone (have.right c.in-Plan.asked _ follows.names)
    (have.kept c.in-Plan.asked _ follows.names follows.is_open)) (search rules))

pub returns-in_ok-keep-in-Keep-clause-runs : goal.returns-in_ok-keep-in-Keep-clause-runs
returns-in_ok-keep-in-Keep-clause-runs g c =
    subst (λ (l : Line). GoesOnWith c.args.loaded.now c.args.self.now (numbered c.args.line.now.number l) run.On c.keep.new.self) (sym c.in-Keep.is)
    (λ first part. quiet_goes first c.args.self.now c.keep.new.self _ (search rules) c.in_ok-keep-in-Keep.ensures.grows tt (λ id a. a)
    (λ known above hands done k alone have kept hs follows.
    c.in_ok-keep-in-Keep.ensures.step known above hands k alone (have.right c.in-Keep.asked _ follows.names)
    (have.kept c.in-Keep.asked _ follows.names follows.is_open.0)) (search rules))

pub returns-in_ok-take-in-Take-clause-runs : goal.returns-in_ok-take-in-Take-clause-runs
returns-in_ok-take-in-Take-clause-runs g c =
    subst (λ (l : Line). GoesOnWith c.args.loaded.now c.args.self.now (numbered c.args.line.now.number l) run.On c.take.new.self) (sym c.in-Take.is)
    (λ first part. quiet_goes first c.args.self.now c.take.new.self _ (search rules) c.in_ok-take-in-Take.ensures.grows tt (λ id a. a)
    (λ known above hands done k alone have kept hs follows.
    c.in_ok-take-in-Take.ensures.step known above hands k alone (asked_all c.args.self.now.client known above c.args.self.now.core _ done c.args.self.now.slots have kept) hs) (search rules))

pub returns-in_ok-done-in-Done-clause-runs : goal.returns-in_ok-done-in-Done-clause-runs
returns-in_ok-done-in-Done-clause-runs g c =
    subst (λ (l : Line). GoesOnWith c.args.loaded.now c.args.self.now (numbered c.args.line.now.number l) run.On c.done.new.self) (sym c.in-Done.is)
    (λ first part. quiet_goes first c.args.self.now c.done.new.self _ (search rules) c.in_ok-done-in-Done.ensures.grows tt (λ id a. a)
    (λ known above hands done k alone have kept hs follows. c.in_ok-done-in-Done.ensures.step known above hands k hs) (search rules))

pub returns-in-Ingest-clause-holds : goal.returns-in-Ingest-clause-holds
returns-in-Ingest-clause-holds g c = holds_if c.args.self.now c.ingest.new.self c.ingest.result c.ingest.ensures.client c.ingest.ensures.grows c.ingest.ensures.hands c.requires.holds

pub returns-in-Delete-clause-holds : goal.returns-in-Delete-clause-holds
returns-in-Delete-clause-holds g c = holds_if c.args.self.now c.delete.new.self c.delete.result c.delete.ensures.client c.delete.ensures.grows c.delete.ensures.hands c.requires.holds

pub returns-in-Ask-clause-holds : goal.returns-in-Ask-clause-holds
returns-in-Ask-clause-holds g c = holds_if c.args.self.now c.ask.new.self c.ask.result c.ask.ensures.client c.ask.ensures.grows c.ask.ensures.hands c.requires.holds

pub returns-in-Instant-clause-holds : goal.returns-in-Instant-clause-holds
returns-in-Instant-clause-holds g c = holds_if c.args.self.now c.instant.new.self c.instant.result c.instant.ensures.client c.instant.ensures.grows c.instant.ensures.hands c.requires.holds

pub returns-in_ok-cancel-in-Cancel-clause-holds : goal.returns-in_ok-cancel-in-Cancel-clause-holds
returns-in_ok-cancel-in-Cancel-clause-holds g c = holds_on c.args.self.now c.cancel.new.self (search rules) c.in_ok-cancel-in-Cancel.ensures.grows (search rules) c.requires.holds

pub returns-in_ok-answer-in-Answer-clause-holds : goal.returns-in_ok-answer-in-Answer-clause-holds
returns-in_ok-answer-in-Answer-clause-holds g c = holds_on c.args.self.now c.answer.new.self (search rules) c.in_ok-answer-in-Answer.ensures.grows (search rules) c.requires.holds

pub returns-in_ok-plan-in-Plan-clause-holds : goal.returns-in_ok-plan-in-Plan-clause-holds
returns-in_ok-plan-in-Plan-clause-holds g c = holds_on c.args.self.now c.plan.new.self (search rules) c.in_ok-plan-in-Plan.ensures.grows (search rules) c.requires.holds

pub returns-in_ok-keep-in-Keep-clause-holds : goal.returns-in_ok-keep-in-Keep-clause-holds
returns-in_ok-keep-in-Keep-clause-holds g c = holds_on c.args.self.now c.keep.new.self (search rules) c.in_ok-keep-in-Keep.ensures.grows (search rules) c.requires.holds

pub returns-in-Ingest-clause-counted : goal.returns-in-Ingest-clause-counted
returns-in-Ingest-clause-counted g c =
    subst (λ (l : Line). OnOk c.ingest.result (CountsNothing c.args.loaded.now c.args.self.now (numbered c.args.line.now.number l) c.ingest.new.self)) (sym c.in-Ingest.is)
    (plain_counts_if c.args.loaded.now c.args.self.now c.ingest.new.self _ c.ingest.result
    (if_ok_map _ _ c.ingest.result (λ r h known told. h known told.held) c.ingest.ensures.runs))

pub returns-in-Delete-clause-counted : goal.returns-in-Delete-clause-counted
returns-in-Delete-clause-counted g c =
    subst (λ (l : Line). OnOk c.delete.result (CountsNothing c.args.loaded.now c.args.self.now (numbered c.args.line.now.number l) c.delete.new.self)) (sym c.in-Delete.is)
    (plain_counts_if c.args.loaded.now c.args.self.now c.delete.new.self _ c.delete.result
    (if_ok_map _ _ c.delete.result (λ r h known told. h known told.right) c.delete.ensures.runs))

pub returns-in-Ask-clause-counted : goal.returns-in-Ask-clause-counted
returns-in-Ask-clause-counted g c =
    subst (λ (l : Line). OnOk c.ask.result (CountsNothing c.args.loaded.now c.args.self.now (numbered c.args.line.now.number l) c.ask.new.self)) (sym c.in-Ask.is)
    (ask_counts_if c.args.loaded.now c.args.self.now c.ask.new.self _ c.ask.result
    (if_ok_map _ _ c.ask.result (λ r h known told. h known told.readings) c.ask.ensures.runs))

pub returns-in-Instant-clause-counted : goal.returns-in-Instant-clause-counted
returns-in-Instant-clause-counted g c =
    subst (λ (l : Line). OnOk c.instant.result (CountsNothing c.args.loaded.now c.args.self.now (numbered c.args.line.now.number l) c.instant.new.self)) (sym c.in-Instant.is)
    (ask_counts_if c.args.loaded.now c.args.self.now c.instant.new.self _ c.instant.result
    (if_ok_map _ _ c.instant.result (λ r h known told. h known told.readings) c.instant.ensures.runs))

pub returns-in_ok-cancel-in-Cancel-clause-counted : goal.returns-in_ok-cancel-in-Cancel-clause-counted
returns-in_ok-cancel-in-Cancel-clause-counted g c =
    subst (λ (l : Line). CountsNothing c.args.loaded.now c.args.self.now (numbered c.args.line.now.number l) c.cancel.new.self) (sym c.in-Cancel.is)
    (quiet_counts c.args.loaded.now c.args.self.now c.cancel.new.self _ c.in_ok-cancel-in-Cancel.ensures.grows
    (λ known above hands done k alone have kept hs follows.
    c.in_ok-cancel-in-Cancel.ensures.step known above hands k alone (have.right c.in-Cancel.asked _ follows.names)))

pub returns-in_ok-answer-in-Answer-clause-counted : goal.returns-in_ok-answer-in-Answer-clause-counted
returns-in_ok-answer-in-Answer-clause-counted g c =
    subst (λ (l : Line). CountsNothing c.args.loaded.now c.args.self.now (numbered c.args.line.now.number l) c.answer.new.self) (sym c.in-Answer.is) (λ quiet. absurd quiet)

pub returns-in_ok-plan-in-Plan-clause-counted : goal.returns-in_ok-plan-in-Plan-clause-counted
returns-in_ok-plan-in-Plan-clause-counted g c =
    subst (λ (l : Line). CountsNothing c.args.loaded.now c.args.self.now (numbered c.args.line.now.number l) c.plan.new.self) (sym c.in-Plan.is)
    (quiet_counts c.args.loaded.now c.args.self.now c.plan.new.self _ c.in_ok-plan-in-Plan.ensures.grows
    (λ known above hands done k alone have kept hs follows.
    c.in_ok-plan-in-Plan.ensures.step known above hands k alone (have.right c.in-Plan.asked _ follows.names)
    (have.kept c.in-Plan.asked _ follows.names follows.is_open)))

pub returns-in_ok-keep-in-Keep-clause-counted : goal.returns-in_ok-keep-in-Keep-clause-counted
returns-in_ok-keep-in-Keep-clause-counted g c =
    subst (λ (l : Line). CountsNothing c.args.loaded.now c.args.self.now (numbered c.args.line.now.number l) c.keep.new.self) (sym c.in-Keep.is)
    (quiet_counts c.args.loaded.now c.args.self.now c.keep.new.self _ c.in_ok-keep-in-Keep.ensures.grows
    (λ known above hands done k alone have kept hs follows.
    c.in_ok-keep-in-Keep.ensures.step known above hands k alone (have.right c.in-Keep.asked _ follows.names)
    (have.kept c.in-Keep.asked _ follows.names follows.is_open.0)))

pub returns-in_ok-take-in-Take-clause-counted : goal.returns-in_ok-take-in-Take-clause-counted
returns-in_ok-take-in-Take-clause-counted g c =
    subst (λ (l : Line). CountsNothing c.args.loaded.now c.args.self.now (numbered c.args.line.now.number l) c.take.new.self) (sym c.in-Take.is)
    (quiet_counts c.args.loaded.now c.args.self.now c.take.new.self _ c.in_ok-take-in-Take.ensures.grows
    (λ known above hands done k alone have kept hs follows.
    c.in_ok-take-in-Take.ensures.step known above hands k alone (asked_all c.args.self.now.client known above c.args.self.now.core _ done c.args.self.now.slots have kept) hs))

pub returns-in_ok-done-in-Done-clause-counted : goal.returns-in_ok-done-in-Done-clause-counted
returns-in_ok-done-in-Done-clause-counted g c =
    subst (λ (l : Line). CountsNothing c.args.loaded.now c.args.self.now (numbered c.args.line.now.number l) c.done.new.self) (sym c.in-Done.is)
    (quiet_counts c.args.loaded.now c.args.self.now c.done.new.self _ c.in_ok-done-in-Done.ensures.grows
    (λ known above hands done k alone have kept hs follows. c.in_ok-done-in-Done.ensures.step known above hands k hs))

pub returns-in_err-answer-in-Answer-clause-most : goal.returns-in_err-answer-in-Answer-clause-most
returns-in_err-answer-in-Answer-clause-most g c = map-set_same g.H.Hop.most c.args.hops.now c.args.self.now.client c.answer.new.hop _ c.answer.ensures.most

pub returns-in_err-done-in-Done-clause-most : goal.returns-in_err-done-in-Done-clause-most
returns-in_err-done-in-Done-clause-most g c = map-set_same g.H.Hop.most c.args.hops.now (16 + c.in-Done.worker) c.done.new.hop _ c.done.ensures.most

pub returns-in_ok-answer-in-Answer-clause-most : goal.returns-in_ok-answer-in-Answer-clause-most
returns-in_ok-answer-in-Answer-clause-most g c = map-set_same g.H.Hop.most c.args.hops.now c.args.self.now.client c.answer.new.hop _ c.answer.ensures.most

pub returns-in_ok-done-in-Done-clause-most : goal.returns-in_ok-done-in-Done-clause-most
returns-in_ok-done-in-Done-clause-most g c = map-set_same g.H.Hop.most c.args.hops.now (16 + c.in-Done.worker) c.done.new.hop _ c.done.ensures.most
