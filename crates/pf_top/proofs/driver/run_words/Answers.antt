-- What a command gives is what comes of the words that name it.
use Rattle.std.proofs.Common.{Option, inl, refl, subst, sym}
use Rattle.pf_client.proofs.Writing.{grows_none}
use Rattle.pf_top.specs.Commands.{Command, Says}
use Rattle.pf_top.specs.Seen.{files_seen, hops_seen}
use Rattle.pf_top.specs.WordSteps.{replay_in}
use Rattle.pf_top.proofs.OutputLaws.{limits_chosen, named_by, plain_said, prints_whole}
use Rattle.pf_top.proofs.driver.run_words.Goals as goal

pub run_replay-requires-clause-limits : goal.run_replay-requires-clause-limits
run_replay-requires-clause-limits g c = limits_chosen c.args.words.now c.args.limits (replay_in c.in-Some-Replay.named) (sym (named_by c.args.words.now c.in-Some-Replay.field-0 _ c.in-Some-Replay.ensures c.in-Some-Replay.field-0-is)) c.requires.limits

pub returns-in_err-evaluate_file-in-Some-Evaluate-clause-begun : goal.returns-in_err-evaluate_file-in-Some-Evaluate-clause-begun
returns-in_err-evaluate_file-in-Some-Evaluate-clause-begun g c is = inl (grows_none (g.O.Sink.told c.args.out.now))

pub returns-in_ok-evaluate_file-in-Some-Evaluate-clause-output : goal.returns-in_ok-evaluate_file-in-Some-Evaluate-clause-output
returns-in_ok-evaluate_file-in-Some-Evaluate-clause-output g c =
    let f = g.F.Files in
    let seen = files_seen f.told f.sure f.lost f.faults f.failed c.args.files.now c.evaluate_file.new.files in
    let o = c.in_ok-evaluate_file-in-Some-Evaluate.field-0 in
    prints_whole _ (g.O.Sink.told c.args.out.now) o.text.items
    (subst (λ (command : Option Command). Says c.args.limits (hops_seen g.H.Hop.most g.H.Hop.faults c.args.hops.now) seen command o.status o.text.items) (named_by c.args.words.now c.in-Some-Evaluate.field-0 _ c.in-Some-Evaluate.ensures c.in-Some-Evaluate.field-0-is) (c.in_ok-evaluate_file-in-Some-Evaluate.ensures c.args.limits (hops_seen g.H.Hop.most g.H.Hop.faults c.args.hops.now)))

pub returns-in_ok-run_seed-in-Some-Load-clause-output : goal.returns-in_ok-run_seed-in-Some-Load-clause-output
returns-in_ok-run_seed-in-Some-Load-clause-output g c =
    let f = g.F.Files in
    let seen = files_seen f.told f.sure f.lost f.faults f.failed c.args.files.now c.args.files.now in
    let o = c.in_ok-run_seed-in-Some-Load.field-0 in
    prints_whole _ (g.O.Sink.told c.args.out.now) o.text.items
    (subst (λ (command : Option Command). Says c.args.limits (hops_seen g.H.Hop.most g.H.Hop.faults c.args.hops.now) seen command o.status o.text.items) (named_by c.args.words.now c.in-Some-Load.field-0 _ c.in-Some-Load.ensures c.in-Some-Load.field-0-is)
    (plain_said c.args.limits (hops_seen g.H.Hop.most g.H.Hop.faults c.args.hops.now) seen _ o.status o.text.items (λ held. refl) refl (λ held. c.in_ok-run_seed-in-Some-Load.ensures)))

pub returns-in_ok-unbuilt-in-None-clause-output : goal.returns-in_ok-unbuilt-in-None-clause-output
returns-in_ok-unbuilt-in-None-clause-output g c =
    let f = g.F.Files in
    let seen = files_seen f.told f.sure f.lost f.faults f.failed c.args.files.now c.args.files.now in
    let o = c.in_ok-unbuilt-in-None.field-0 in
    prints_whole _ (g.O.Sink.told c.args.out.now) o.text.items
    (subst (λ (command : Option Command). Says c.args.limits (hops_seen g.H.Hop.most g.H.Hop.faults c.args.hops.now) seen command o.status o.text.items) c.in-None.ensures
    (plain_said c.args.limits (hops_seen g.H.Hop.most g.H.Hop.faults c.args.hops.now) seen _ o.status o.text.items (λ held. refl) refl (λ held. c.in_ok-unbuilt-in-None.ensures)))
