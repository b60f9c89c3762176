use Rattle.std.proofs.Common.{rules, inl}
use Rattle.pf_script.specs.Lines.{lines_of}
use Rattle.pf_client.proofs.Gone.{left_last}
use Rattle.pf_client.proofs.Writing.{grows_none}
use Rattle.pf_top.proofs.OutputLaws.{left_files, prints_whole, replay_begun, replay_broken, replay_failed, replayed}
use Rattle.pf_client.proofs.Cases.{if_ok_map}
use Rattle.pf_top.specs.Outputs.{IsReplay}
use Rattle.pf_top.specs.Seen.{files_seen, hops_seen}
use Rattle.pf_top.proofs.driver.replay_script.Goals as goal

pub load_all-requires-clause-there : goal.load_all-requires-clause-there
load_all-requires-clause-there g c = c.in-Ok.ensures.present (g.F.Files.lost c.args.files.now) c.requires.there

pub run_loaded-requires-clause-there : goal.run_loaded-requires-clause-there
run_loaded-requires-clause-there g c =
    left_files (g.F.Files.told c.args.files.now) (g.F.Files.lost c.args.files.now) c.in-Ok.contents (lines_of c.args.script.now) c.load_all.new.loaded
    c.args.name.now c.let_go.new.loaded c.requires.following (search rules) (search rules)

pub run_loaded-requires-clause-lasts : goal.run_loaded-requires-clause-lasts
run_loaded-requires-clause-lasts g c =
    left_last (lines_of c.args.script.now) c.load_all.new.loaded c.args.name.now 0 c.let_go.new.loaded (search rules) (search rules)

-- no name or byte of the output was written yet
pub returns-in_default-clause-begun : goal.returns-in_default-clause-begun
returns-in_default-clause-begun g c is = inl (grows_none (g.O.Sink.told c.args.out.now))

pub returns-in-Ok-load_all-clause-output : goal.returns-in-Ok-load_all-clause-output
returns-in-Ok-load_all-clause-output g c =
    let f = g.F.Files in
    let seen = files_seen f.told f.sure f.lost f.faults f.failed c.args.files.now c.load_all.new.files in
    if_ok_map _ _ c.run_loaded.result
    (λ o run. replayed c.args.limits (hops_seen g.H.Hop.most g.H.Hop.faults c.args.hops.now) seen c.args.name.now c.args.bytes (lines_of c.args.script.now) c.in-Ok.contents c.load_all.new.loaded c.let_go.new.loaded
    (g.O.Sink.told c.args.out.now) (g.O.Sink.told c.run_loaded.new.out) (search rules) (search rules) (search rules) (search rules) o.status o.text.items run)
    c.run_loaded.ensures.printed

pub returns-in-Ok-load_all-clause-begun : goal.returns-in-Ok-load_all-clause-begun
returns-in-Ok-load_all-clause-begun g c is =
    let f = g.F.Files in
    let seen = files_seen f.told f.sure f.lost f.faults f.failed c.args.files.now c.load_all.new.files in
    replay_begun c.args.limits (hops_seen g.H.Hop.most g.H.Hop.faults c.args.hops.now) seen c.args.name.now c.args.bytes (lines_of c.args.script.now) c.in-Ok.contents c.load_all.new.loaded c.let_go.new.loaded
    (g.O.Sink.told c.args.out.now) (g.O.Sink.told c.run_loaded.new.out) (search rules) (search rules) (search rules) (search rules) (c.run_loaded.ensures.begun is)

pub returns-in-Ok-load_all-clause-broken : goal.returns-in-Ok-load_all-clause-broken
returns-in-Ok-load_all-clause-broken g c is =
    let f = g.F.Files in
    let seen = files_seen f.told f.sure f.lost f.faults f.failed c.args.files.now c.load_all.new.files in
    replay_broken c.args.limits (hops_seen g.H.Hop.most g.H.Hop.faults c.args.hops.now) seen c.args.name.now c.args.bytes (lines_of c.args.script.now) c.in-Ok.contents c.load_all.new.loaded c.let_go.new.loaded
    (g.O.Sink.told c.args.out.now) (g.O.Sink.told c.run_loaded.new.out) (search rules) (search rules) (search rules) (search rules) (c.run_loaded.ensures.broken is)

pub returns-in-Err-Unread-clause-output : goal.returns-in-Err-Unread-clause-output
returns-in-Err-Unread-clause-output g c =
    let f = g.F.Files in
    let seen = files_seen f.told f.sure f.lost f.faults f.failed c.args.files.now c.load_all.new.files in
    prints_whole (IsReplay c.args.limits (hops_seen g.H.Hop.most g.H.Hop.faults c.args.hops.now) seen c.args.name.now c.args.bytes.items (lines_of c.args.script.now) c.in_ok-unread-in-Err-Unread.field-0.status) (g.O.Sink.told c.args.out.now) c.in_ok-unread-in-Err-Unread.field-0.text.items
    (replay_failed c.args.limits (hops_seen g.H.Hop.most g.H.Hop.faults c.args.hops.now) seen c.args.name.now c.args.bytes.items c.in-Err-Unread.missing _ (lines_of c.args.script.now) c.in_ok-unread-in-Err-Unread.field-0.status c.in_ok-unread-in-Err-Unread.field-0.text.items
    c.requires.held (search rules) (search rules) c.in_ok-unread-in-Err-Unread.ensures (search rules))
