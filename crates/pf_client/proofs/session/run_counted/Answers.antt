use Rattle.std.proofs.Common.{rules, subst, sym, ℕ}
use Rattle.std.proofs.Math.Seq.{map-set_same}
use Rattle.pf_journal.specs.Scripts.{Numbered}
use Rattle.pf_script.specs.Lines.{line_of, numbered_of}
use Rattle.pf_script.specs.declared.script.Line.{Line}
use Rattle.pf_client.specs.Going.{GoesOnWith}
use Rattle.pf_client.specs.Tallies.{Counts, CountsNothing}
use Rattle.pf_client.specs.declared.client.LineRun.TheVariants as run
use Rattle.pf_client.proofs.Cases.{on_ok_map}
use Rattle.pf_client.proofs.Driving.{answer_goes}
use Rattle.pf_client.proofs.StepLines.{holds_on}
use Rattle.pf_client.proofs.Tallying.{answer_counts, not_answer}
use Rattle.pf_client.proofs.session.run_counted.Goals as goal

abbrev numbered : ℕ → Line → Numbered
numbered n l = record { number = n; line = line_of l }

pub returns-in_ok-answered-in-Answer-clause-runs : goal.returns-in_ok-answered-in-Answer-clause-runs
returns-in_ok-answered-in-Answer-clause-runs g c =
    subst (λ (l : Line). GoesOnWith c.args.loaded.now c.args.client.now (numbered c.args.line.now.number l) run.On c.answer.new.self) (sym c.in-Answer.is)
    (λ first part. answer_goes first c.args.client.now c.answer.new.self _ c.in-Answer.asked _ (search rules) c.in_ok-answered-in-Answer.ensures.grows c.in_ok-answered-in-Answer.ensures.step)

pub returns-in_ok-answered-in-Answer-clause-counted : goal.returns-in_ok-answered-in-Answer-clause-counted
returns-in_ok-answered-in-Answer-clause-counted g c =
    answer_counts c.args.loaded.now c.args.client.now c.answer.new.self (numbered_of c.args.line.now) c.args.tally.now c.with_answered.result c.in_ok-answered-in-Answer.answered
    c.in_ok-answered-in-Answer.ensures.grows (search rules) (search rules)

pub returns-in_ok-answered-in-Answer-clause-holds : goal.returns-in_ok-answered-in-Answer-clause-holds
returns-in_ok-answered-in-Answer-clause-holds g c = holds_on c.args.client.now c.answer.new.self (search rules) c.in_ok-answered-in-Answer.ensures.grows (search rules) c.requires.holds

pub returns-in_default-clause-counted : goal.returns-in_default-clause-counted
returns-in_default-clause-counted g c =
    on_ok_map (CountsNothing c.args.loaded.now c.args.client.now (numbered_of c.args.line.now) c.run_line.new.self)
    (Counts c.args.loaded.now c.args.client.now (numbered_of c.args.line.now) c.args.tally.now c.run_line.new.self c.args.tally.now) c.run_line.result
    (λ h. h (not_answer c.args.line.now.line c.in_default.not-Answer) c.args.tally.now) c.run_line.ensures.counted

pub returns-in_err-answered-in-Answer-clause-most : goal.returns-in_err-answered-in-Answer-clause-most
returns-in_err-answered-in-Answer-clause-most g c = map-set_same g.H.Hop.most c.args.hops.now c.args.client.now.client c.answer.new.hop _ c.answer.ensures.most

pub returns-in_ok-answered-in-Answer-clause-most : goal.returns-in_ok-answered-in-Answer-clause-most
returns-in_ok-answered-in-Answer-clause-most g c = map-set_same g.H.Hop.most c.args.hops.now c.args.client.now.client c.answer.new.hop _ c.answer.ensures.most
