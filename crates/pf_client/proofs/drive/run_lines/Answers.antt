use Rattle.std.proofs.Common.{rules, refl, subst, arith, ◌∙◌}
use Rattle.std.specs.Prelude.{sum_by}
use Rattle.pf_front.specs.Works.{AreCarried}
use Rattle.pf_script.specs.Lines.{lines_of, numbered_of}
use Rattle.pf_client.specs.Replays.{file_of}
use Rattle.pf_client.specs.Going.{GoesOn}
use Rattle.pf_client.proofs.Cases.{on_err_all}
use Rattle.pf_client.proofs.Runs.{ends, follows, part_on, ready, runs_on, there}
use Rattle.pf_client.proofs.Sending.{breaks_off, broke_off, holding, holds_sent, sends_first, sends_on}
use Rattle.pf_client.proofs.Tries.{carried_on, carried_up, none_carried}
use Rattle.pf_client.proofs.drive.run_lines.Goals as goal

pub loop-line-init : goal.loop-line-init
loop-line-init g c = record {
  sends = sends_first (g.O.Sink.told c.args.out.now) c.args.loaded.now (lines_of c.args.script.now) c.args.client.now;
  can_run = c.requires.can_run;
  part = λ known told. told;
  holds = c.requires.holds;
  client = refl;
  actors = c.requires.actors;
  steady = refl;
  carried = none_carried (sum_by g.H.Hop.faults c.args.hops.now) c.args.client.now.core;
  risen = omega arith;
  most = refl;
}

pub returns-in_err-hand_on-clause-broken : goal.returns-in_err-hand_on-clause-broken
returns-in_err-hand_on-clause-broken g c =
    on_err_all _ c.from_residual.result
    (λ limits going. breaks_off (g.O.Sink.told c.args.out.now) (g.O.Sink.told c.loop-line.out) (g.O.Sink.told c.hand_on.new.out) c.args.loaded.now limits (lines_of c.args.script.now)
    c.args.client.now c.loop-line.line-index c.loop-line.client c.loop-line.invariant.client (search rules) c.loop-line.invariant.sends c.in_err-hand_on.ensures.begun
    (AreCarried (sum_by g.H.Hop.faults c.args.hops.now) (sum_by g.H.Hop.faults c.loop-line.hops) c.args.client.now.core) c.loop-line.invariant.carried going)

pub run_line-requires-clause-ready : goal.run_line-requires-clause-ready
run_line-requires-clause-ready g c =
    ready c.args.script.now c.loop-line.loaded c.loop-line.line-index c.line-item.result (search rules) (search rules) c.loop-line.invariant.can_run

pub run_line-requires-clause-holds : goal.run_line-requires-clause-holds
run_line-requires-clause-holds g c = holds_sent c.loop-line.client c.hand_on.new.held c.loop-line.invariant.holds

pub returns-in_err-run_line-clause-broken : goal.returns-in_err-run_line-clause-broken
returns-in_err-run_line-clause-broken g c =
    on_err_all _ c.from_residual-in_err-run_line.result
    (λ limits going. broke_off (g.O.Sink.told c.args.out.now) (g.O.Sink.told c.hand_on.new.out) c.args.loaded.now limits (lines_of c.args.script.now)
    c.args.client.now c.loop-line.line-index (holding c.loop-line.client c.hand_on.new.held) c.loop-line.invariant.client (search rules)
    (sends_on (g.O.Sink.told c.args.out.now) (g.O.Sink.told c.loop-line.out) (g.O.Sink.told c.hand_on.new.out) c.args.loaded.now (lines_of c.args.script.now) c.args.client.now
    c.loop-line.line-index c.loop-line.client c.hand_on.new.held c.loop-line.invariant.sends c.in_ok-hand_on.ensures.written)
    (AreCarried (sum_by g.H.Hop.faults c.args.hops.now) (sum_by g.H.Hop.faults c.run_line.new.hops) c.args.client.now.core)
    (carried_up (sum_by g.H.Hop.faults c.args.hops.now) (sum_by g.H.Hop.faults c.loop-line.hops) (sum_by g.H.Hop.faults c.run_line.new.hops) c.args.client.now.core c.loop-line.client.core c.run_line.ensures.risen c.loop-line.invariant.carried) going)

pub returns-in-Full-clause-stopped : goal.returns-in-Full-clause-stopped
returns-in-Full-clause-stopped g c = λ limits going.
    let s = sends_on (g.O.Sink.told c.args.out.now) (g.O.Sink.told c.loop-line.out) (g.O.Sink.told c.hand_on.new.out) c.args.loaded.now (lines_of c.args.script.now) c.args.client.now
    c.loop-line.line-index c.loop-line.client c.hand_on.new.held c.loop-line.invariant.sends c.in_ok-hand_on.ensures.written in (
      s.0,
      (
        s.1.0,
        subst (λ r. GoesOn c.args.loaded.now (holding c.loop-line.client c.hand_on.new.held) (numbered_of c.line-item.result) r c.run_line.new.self) c.in-Full.is
            (c.in_ok-run_line.ensures.runs c.args.loaded.now c.loop-line.invariant.part)
            limits (lines_of c.args.script.now) c.loop-line.line-index s.0
            (there c.args.script.now c.loop-line.loaded c.loop-line.line-index c.line-item.result (search rules) (search rules) c.loop-line.invariant.can_run)
            (follows c.args.script.now c.loop-line.loaded c.loop-line.line-index c.line-item.result (search rules) (search rules) c.loop-line.invariant.can_run)
            (s.1.1 limits going),
      ),
    )

pub returns-in-Starved-clause-stopped : goal.returns-in-Starved-clause-stopped
returns-in-Starved-clause-stopped g c = λ limits going.
    let s = sends_on (g.O.Sink.told c.args.out.now) (g.O.Sink.told c.loop-line.out) (g.O.Sink.told c.hand_on.new.out) c.args.loaded.now (lines_of c.args.script.now) c.args.client.now
    c.loop-line.line-index c.loop-line.client c.hand_on.new.held c.loop-line.invariant.sends c.in_ok-hand_on.ensures.written in (
      s.0,
      (
        s.1.0,
        subst (λ r. GoesOn c.args.loaded.now (holding c.loop-line.client c.hand_on.new.held) (numbered_of c.line-item.result) r c.run_line.new.self) c.in-Starved.is
            (c.in_ok-run_line.ensures.runs c.args.loaded.now c.loop-line.invariant.part)
            limits (lines_of c.args.script.now) c.loop-line.line-index s.0
            (there c.args.script.now c.loop-line.loaded c.loop-line.line-index c.line-item.result (search rules) (search rules) c.loop-line.invariant.can_run)
            (follows c.args.script.now c.loop-line.loaded c.loop-line.line-index c.line-item.result (search rules) (search rules) c.loop-line.invariant.can_run)
            (s.1.1 limits going),
      ),
    )

pub loop-line-preserved : goal.loop-line-preserved
loop-line-preserved g c =
    let s = sends_on (g.O.Sink.told c.args.out.now) (g.O.Sink.told c.loop-line.out) (g.O.Sink.told c.hand_on.new.out) c.args.loaded.now (lines_of c.args.script.now) c.args.client.now
    c.loop-line.line-index c.loop-line.client c.hand_on.new.held c.loop-line.invariant.sends c.in_ok-hand_on.ensures.written in
    record {
      sends = (
        s.0,
        (
          s.1.0,
          λ limits going.
              subst (λ r. GoesOn c.args.loaded.now (holding c.loop-line.client c.hand_on.new.held) (numbered_of c.line-item.result) r c.run_line.new.self) c.in-On.is
              (c.in_ok-run_line.ensures.runs c.args.loaded.now c.loop-line.invariant.part)
              limits (lines_of c.args.script.now) c.loop-line.line-index s.0
              (there c.args.script.now c.loop-line.loaded c.loop-line.line-index c.line-item.result (search rules) (search rules) c.loop-line.invariant.can_run)
              (follows c.args.script.now c.loop-line.loaded c.loop-line.line-index c.line-item.result (search rules) (search rules) c.loop-line.invariant.can_run)
              (s.1.1 limits going),
        ),
      );
      can_run = runs_on c.args.script.now c.loop-line.loaded c.loop-line.line-index c.line-item.result (search rules) (search rules) c.loop-line.invariant.can_run
          c.run_line.new.loaded (search rules) (search rules);
      part = part_on c.args.loaded.now c.loop-line.loaded c.run_line.new.loaded (file_of (numbered_of c.line-item.result).line) c.line-item.result.number
          (search rules) (search rules) c.loop-line.invariant.part;
      holds = search rules;
      client = search rules;
      actors = search rules;
      steady = search rules;
      carried = carried_on (sum_by g.H.Hop.faults c.args.hops.now) (sum_by g.H.Hop.faults c.loop-line.hops) (sum_by g.H.Hop.faults c.run_line.new.hops) c.args.client.now.core c.loop-line.client.core c.run_line.new.self.core c.run_line.ensures.risen
          c.loop-line.invariant.carried c.in_ok-run_line.ensures.grows.carried;
      risen = let a = c.loop-line.invariant.risen in let b = c.run_line.ensures.risen in omega (arith, a, b);
      most = c.run_line.ensures.most ∙ c.loop-line.invariant.most;
    }

pub returns-clause-stopped : goal.returns-clause-stopped
returns-clause-stopped g c = λ limits going.
    let s = c.loop-line.invariant.sends in
    (s.0, (s.1.0, ends c.args.script.now c.args.loaded.now limits c.loop-line.line-index s.0 c.loop-line.client (search rules) (s.1.1 limits going)))

pub returns-in-Full-clause-carried : goal.returns-in-Full-clause-carried
returns-in-Full-clause-carried g c =
    carried_on (sum_by g.H.Hop.faults c.args.hops.now) (sum_by g.H.Hop.faults c.loop-line.hops) (sum_by g.H.Hop.faults c.run_line.new.hops) c.args.client.now.core c.loop-line.client.core c.run_line.new.self.core c.run_line.ensures.risen
    c.loop-line.invariant.carried c.in_ok-run_line.ensures.grows.carried

pub returns-in-Starved-clause-carried : goal.returns-in-Starved-clause-carried
returns-in-Starved-clause-carried g c =
    carried_on (sum_by g.H.Hop.faults c.args.hops.now) (sum_by g.H.Hop.faults c.loop-line.hops) (sum_by g.H.Hop.faults c.run_line.new.hops) c.args.client.now.core c.loop-line.client.core c.run_line.new.self.core c.run_line.ensures.risen
    c.loop-line.invariant.carried c.in_ok-run_line.ensures.grows.carried
