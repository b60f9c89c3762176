use Rattle.std.proofs.Common.{refl, arith, ap, Err}
use Rattle.pf_script.specs.IdLists.{issued_in}
use Rattle.pf_script.specs.Lines.{lines_of}
use Rattle.pf_script.proofs.Follows.{script_follows}
use Rattle.pf_script.proofs.Going.{going_end, going_more, going_stop, script_long, stopped}
use Rattle.pf_script.proofs.read.read_script.Goals as goal

pub returns-then-bytes-gt-MOST_BYTES-clause-read : goal.returns-then-bytes-gt-MOST_BYTES-clause-read
returns-then-bytes-gt-MOST_BYTES-clause-read c = script_long c.args.stepped_allowed c.args.bytes.now c.if-bytes-gt-MOST_BYTES.true

pub loop-text-preserved : goal.loop-text-preserved
loop-text-preserved c = record {
  going = going_more c.args.stepped_allowed c.args.bytes.now c.loop-text.rest.now c.in-Some.text.now c.in-Some.behind.now c.loop-text.number _ (issued_in c.loop-text.ids) _ c.loop-text.lines.items _
      c.loop-text.invariant.going c.in-Some.ensures.lines refl c.in_default-add_line.ensures.ok;
  room = omega (arith, c.in-Some.ensures.shorter);
  short = c.loop-text.invariant.short;
}

pub returns-in-Err-clause-read : goal.returns-in-Err-clause-read
returns-in-Err-clause-read c =
    rw c.at.ensures
    (stopped lines_of _ c.in-Err.error _ (λ e. going_stop c.args.stepped_allowed c.args.bytes.now c.loop-text.rest.now c.in-Some.text.now c.in-Some.behind.now c.loop-text.number _ (issued_in c.loop-text.ids) c.loop-text.lines.items
    c.loop-text.invariant.going c.loop-text.invariant.short c.in-Some.ensures.lines refl (c.in-Err.ensures.err (ap Err e))))

pub returns-clause-read : goal.returns-clause-read
returns-clause-read c =
    going_end c.args.stepped_allowed c.args.bytes.now c.loop-text.rest.now c.loop-text.number (issued_in c.loop-text.ids) c.loop-text.lines.items
    c.loop-text.invariant.going c.loop-text.invariant.short c.in_default.ensures.lines

pub returns-clause-following : goal.returns-clause-following
returns-clause-following c =
    script_follows c.args.stepped_allowed c.args.bytes.now _
    (going_end c.args.stepped_allowed c.args.bytes.now c.loop-text.rest.now c.loop-text.number (issued_in c.loop-text.ids) c.loop-text.lines.items
    c.loop-text.invariant.going c.loop-text.invariant.short c.in_default.ensures.lines)
