use Rattle.std.proofs.Common.{arith, rules, refl, [], ◌++◌, ◌+◌, ◌∙◌, subst, sym}
use Rattle.std.specs.Prelude.{sum_by}
use Rattle.pf_script.specs.Lines.{lines_of, numbered_of}
use Rattle.pf_client.specs.Replays.{file_of}
use Rattle.pf_client.specs.Going.{GoesOn}
use Rattle.pf_client.proofs.Runs.{ends, follows, part_on, ready, runs_on, there}
use Rattle.pf_client.proofs.Sending.{all_sent, going_sent, holds_sent}
use Rattle.pf_client.proofs.Tries.{carried_on, none_carried}
use Rattle.pf_client.proofs.session.run_lines_counted.Goals as goal

pub loop-line-init : goal.loop-line-init
loop-line-init g c = record {
  going = λ limits g. ([], g);
  counted = λ limits g k known told kn. k known told kn ∙ sym c.nothing-tally.ensures;
  can_run = c.requires.can_run;
  part = λ known told. told;
  holds = c.requires.holds;
  client = refl;
  actors = c.requires.actors;
  carried = none_carried (sum_by g.H.Hop.faults c.args.hops.now) c.args.client.now.core;
  risen = omega arith;
  most = refl;
}

pub run_counted-requires-clause-ready : goal.run_counted-requires-clause-ready
run_counted-requires-clause-ready g c =
    ready c.args.script.now c.loop-line.loaded c.loop-line.line-index c.line-item.result (search rules) (search rules) c.loop-line.invariant.can_run

pub returns-in-Full-clause-ended : goal.returns-in-Full-clause-ended
returns-in-Full-clause-ended g c = λ limits g k.
    let s = c.loop-line.invariant.going limits g in
    let at = there c.args.script.now c.loop-line.loaded c.loop-line.line-index c.line-item.result (search rules) (search rules) c.loop-line.invariant.can_run in
    let behind = follows c.args.script.now c.loop-line.loaded c.loop-line.line-index c.line-item.result (search rules) (search rules) c.loop-line.invariant.can_run in (
      (
        s.0,
        subst (λ r. GoesOn c.args.loaded.now c.loop-line.client (numbered_of c.line-item.result) r c.run_counted.new.client) c.in-Full.is
            (c.in_ok-run_counted.ensures.runs c.args.loaded.now c.loop-line.invariant.part)
            limits (lines_of c.args.script.now) c.loop-line.line-index s.0 at behind s.1,
      ),
      c.in_ok-run_counted.ensures.counted c.args.loaded.now c.loop-line.invariant.part limits (lines_of c.args.script.now) c.loop-line.line-index s.0 at behind
          s.1 (c.loop-line.invariant.counted limits g k),
    )

pub loop-line-preserved : goal.loop-line-preserved
loop-line-preserved g c =
    let at = there c.args.script.now c.loop-line.loaded c.loop-line.line-index c.line-item.result (search rules) (search rules) c.loop-line.invariant.can_run in
    let behind = follows c.args.script.now c.loop-line.loaded c.loop-line.line-index c.line-item.result (search rules) (search rules) c.loop-line.invariant.can_run in
    record {
      going = λ limits g.
          let s = c.loop-line.invariant.going limits g in (
            s.0 ++ c.run_counted.new.client.out.items,
            going_sent c.args.loaded.now limits (lines_of c.args.script.now) (c.loop-line.line-index + 1) s.0 c.run_counted.new.client.out.items c.run_counted.new.client c.clear.new.self
                (all_sent c.run_counted.new.client.out.items c.clear.new.self.items (search rules))
                (subst (λ r. GoesOn c.args.loaded.now c.loop-line.client (numbered_of c.line-item.result) r c.run_counted.new.client) c.in-On.is
                (c.in_ok-run_counted.ensures.runs c.args.loaded.now c.loop-line.invariant.part)
                limits (lines_of c.args.script.now) c.loop-line.line-index s.0 at behind s.1),
          );
      counted = λ limits g k.
          let s = c.loop-line.invariant.going limits g in
          c.in_ok-run_counted.ensures.counted c.args.loaded.now c.loop-line.invariant.part limits (lines_of c.args.script.now) c.loop-line.line-index s.0 at behind
          s.1 (c.loop-line.invariant.counted limits g k);
      can_run = runs_on c.args.script.now c.loop-line.loaded c.loop-line.line-index c.line-item.result (search rules) (search rules) c.loop-line.invariant.can_run
          c.run_counted.new.loaded (search rules) (search rules);
      part = part_on c.args.loaded.now c.loop-line.loaded c.run_counted.new.loaded (file_of (numbered_of c.line-item.result).line) c.line-item.result.number
          (search rules) (search rules) c.loop-line.invariant.part;
      holds = holds_sent c.run_counted.new.client c.clear.new.self (search rules);
      client = search rules;
      actors = search rules;
      carried = carried_on (sum_by g.H.Hop.faults c.args.hops.now) (sum_by g.H.Hop.faults c.loop-line.hops) (sum_by g.H.Hop.faults c.run_counted.new.hops) c.args.client.now.core c.loop-line.client.core c.run_counted.new.client.core c.run_counted.ensures.risen
          c.loop-line.invariant.carried c.in_ok-run_counted.ensures.carried;
      risen = let a = c.loop-line.invariant.risen in let b = c.run_counted.ensures.risen in omega (arith, a, b);
      most = c.run_counted.ensures.most ∙ c.loop-line.invariant.most;
    }

pub returns-clause-ended : goal.returns-clause-ended
returns-clause-ended g c = λ limits g k.
    let s = c.loop-line.invariant.going limits g in (
      (s.0, ends c.args.script.now c.args.loaded.now limits c.loop-line.line-index s.0 c.loop-line.client (search rules) s.1),
      c.loop-line.invariant.counted limits g k,
    )

pub returns-in-Full-clause-carried : goal.returns-in-Full-clause-carried
returns-in-Full-clause-carried g c =
    carried_on (sum_by g.H.Hop.faults c.args.hops.now) (sum_by g.H.Hop.faults c.loop-line.hops) (sum_by g.H.Hop.faults c.run_counted.new.hops) c.args.client.now.core c.loop-line.client.core c.run_counted.new.client.core c.run_counted.ensures.risen
    c.loop-line.invariant.carried c.in_ok-run_counted.ensures.carried
