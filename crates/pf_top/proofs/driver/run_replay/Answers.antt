-- What is given is what comes of the script.
use Rattle.std.proofs.Common.{rules, Some, inl, refl, subst, sym}
use Rattle.pf_core.specs.Cores.{AreLimits}
use Rattle.pf_script.specs.Lines.{lines_of}
use Rattle.pf_client.proofs.Cases.{if_ok_map}
use Rattle.pf_client.proofs.Writing.{grows_none}
use Rattle.pf_top.specs.Commands.{replay}
use Rattle.pf_top.specs.Seen.{files_seen, hops_seen}
use Rattle.pf_top.specs.WordSteps.{replay_in}
use Rattle.pf_top.proofs.OutputLaws.{begins_map, bytes_told, long_said, part_map, prints_map, prints_whole, refused_said, replay_said, unread_said}
use Rattle.pf_top.proofs.driver.run_replay.Goals as goal

-- ---- nothing was written

pub returns-in_err-script_refused-in-Ok-TooLong-clause-begun : goal.returns-in_err-script_refused-in-Ok-TooLong-clause-begun
returns-in_err-script_refused-in-Ok-TooLong-clause-begun g c is = inl (grows_none (g.O.Sink.told c.args.out.now))

pub returns-in_err-unread-in-Err-Failed-clause-begun : goal.returns-in_err-unread-in-Err-Failed-clause-begun
returns-in_err-unread-in-Err-Failed-clause-begun g c is = inl (grows_none (g.O.Sink.told c.args.out.now))

pub returns-in_err-script_refused-in-Err-Line-clause-begun : goal.returns-in_err-script_refused-in-Err-Line-clause-begun
returns-in_err-script_refused-in-Err-Line-clause-begun g c is = inl (grows_none (g.O.Sink.told c.args.out.now))

-- ---- the script does not run

pub returns-in-Ok-TooLong-clause-output : goal.returns-in-Ok-TooLong-clause-output
returns-in-Ok-TooLong-clause-output g c =
    let f = g.F.Files in
    let seen = files_seen f.told f.sure f.lost f.faults f.failed c.args.files.now c.read_file.new.files in
    let o = c.in_ok-script_refused-in-Ok-TooLong.field-0 in
    prints_whole _ (g.O.Sink.told c.args.out.now) o.text.items
    (long_said c.args.limits (hops_seen g.H.Hop.most g.H.Hop.faults c.args.hops.now) seen (replay_in c.args.named.now) o.status o.text.items (search rules) (search rules) (search rules) c.in_ok-script_refused-in-Ok-TooLong.ensures)

pub returns-in-Err-Failed-clause-output : goal.returns-in-Err-Failed-clause-output
returns-in-Err-Failed-clause-output g c =
    let f = g.F.Files in
    let seen = files_seen f.told f.sure f.lost f.faults f.failed c.args.files.now c.read_file.new.files in
    let o = c.in_ok-unread-in-Err-Failed.field-0 in
    prints_whole _ (g.O.Sink.told c.args.out.now) o.text.items
    (unread_said c.args.limits (hops_seen g.H.Hop.most g.H.Hop.faults c.args.hops.now) seen (Some (replay (replay_in c.args.named.now))) c.args.named.now.script.now o.status o.text.items (λ held. inl refl) (search rules) c.in_ok-unread-in-Err-Failed.ensures)

pub returns-in-Err-Line-clause-output : goal.returns-in-Err-Line-clause-output
returns-in-Err-Line-clause-output g c =
    let f = g.F.Files in
    let seen = files_seen f.told f.sure f.lost f.faults f.failed c.args.files.now c.read_file.new.files in
    let o = c.in_ok-script_refused-in-Err-Line.field-0 in
    prints_whole _ (g.O.Sink.told c.args.out.now) o.text.items
    (refused_said c.args.limits (hops_seen g.H.Hop.most g.H.Hop.faults c.args.hops.now) seen (replay_in c.args.named.now) c.in-Ok-Bytes.bytes.items c.as_slice.result.now c.in-Err-Line.line _ o.status o.text.items
    (bytes_told (f.told c.args.files.now c.args.named.now.script.now) c.in-Ok-Bytes.field-0 c.in-Ok-Bytes.bytes (search rules) c.in-Ok-Bytes.ensures.contents).0
    (search rules) (search rules) (search rules) (search rules) c.in_ok-script_refused-in-Err-Line.ensures (search rules))

-- ---- the script runs

pub replay_script-requires-clause-limits : goal.replay_script-requires-clause-limits
replay_script-requires-clause-limits g c = subst AreLimits (sym c.limits_with-chosen.ensures) c.requires.limits

pub returns-in-Ok-clause-output : goal.returns-in-Ok-clause-output
returns-in-Ok-clause-output g c =
    let f = g.F.Files in
    let seen = files_seen f.told f.sure f.lost f.faults f.failed c.args.files.now c.replay_script.new.files in
    if_ok_map _ _ c.replay_script.result
    (λ o output. prints_map _ _ (g.O.Sink.told c.args.out.now) (g.O.Sink.told c.replay_script.new.out) o.text.items
    (λ text p. replay_said seen (f.told c.read_file.new.files) (f.sure c.read_file.new.files) (f.lost c.read_file.new.files) (f.faults c.read_file.new.files)
    c.read_file.ensures.kept c.read_file.ensures.kept_lost c.read_file.ensures.kept_sure (search rules)
    c.args.limits c.limits_with-chosen.result (hops_seen g.H.Hop.most g.H.Hop.faults c.args.hops.now) (replay_in c.args.named.now) c.in-Ok-Bytes.bytes.items c.as_slice.result.now (lines_of c.in-Ok.script) o.status text
    c.limits_with-chosen.ensures (search rules) (search rules) (search rules) p) output)
    c.replay_script.ensures.output

pub returns-in-Ok-clause-begun : goal.returns-in-Ok-clause-begun
returns-in-Ok-clause-begun g c is =
    let f = g.F.Files in
    let seen = files_seen f.told f.sure f.lost f.faults f.failed c.args.files.now c.replay_script.new.files in
    begins_map _ _ (g.O.Sink.told c.args.out.now) (g.O.Sink.told c.replay_script.new.out)
    (λ text p. replay_said seen (f.told c.read_file.new.files) (f.sure c.read_file.new.files) (f.lost c.read_file.new.files) (f.faults c.read_file.new.files)
    c.read_file.ensures.kept c.read_file.ensures.kept_lost c.read_file.ensures.kept_sure (search rules)
    c.args.limits c.limits_with-chosen.result (hops_seen g.H.Hop.most g.H.Hop.faults c.args.hops.now) (replay_in c.args.named.now) c.in-Ok-Bytes.bytes.items c.as_slice.result.now (lines_of c.in-Ok.script) 6 text
    c.limits_with-chosen.ensures (search rules) (search rules) (search rules) p)
    (c.replay_script.ensures.begun is)

pub returns-in-Ok-clause-broken : goal.returns-in-Ok-clause-broken
returns-in-Ok-clause-broken g c is =
    let f = g.F.Files in
    let seen = files_seen f.told f.sure f.lost f.faults f.failed c.args.files.now c.replay_script.new.files in
    part_map _ _ (g.O.Sink.told c.args.out.now) (g.O.Sink.told c.replay_script.new.out)
    (λ text p. replay_said seen (f.told c.read_file.new.files) (f.sure c.read_file.new.files) (f.lost c.read_file.new.files) (f.faults c.read_file.new.files)
    c.read_file.ensures.kept c.read_file.ensures.kept_lost c.read_file.ensures.kept_sure (search rules)
    c.args.limits c.limits_with-chosen.result (hops_seen g.H.Hop.most g.H.Hop.faults c.args.hops.now) (replay_in c.args.named.now) c.in-Ok-Bytes.bytes.items c.as_slice.result.now (lines_of c.in-Ok.script) 6 text
    c.limits_with-chosen.ensures (search rules) (search rules) (search rules) p)
    (c.replay_script.ensures.broken is)
