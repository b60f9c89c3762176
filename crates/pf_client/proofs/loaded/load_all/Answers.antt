use Rattle.std.proofs.Common.{rules, map, refl, take}
use Rattle.pf_script.specs.Lines.{lines_of, numbered_of}
use Rattle.pf_client.specs.Replays.{Reaches, files_of}
use Rattle.pf_client.specs.Files.{LineNames}
use Rattle.pf_client.proofs.Texts.{loaded_first, loaded_more, reaches_at, read_there, unread_by}
use Rattle.pf_client.proofs.loaded.load_all.Goals as goal

pub loop-line-init : goal.loop-line-init
loop-line-init g c = record {
  loaded = loaded_first (g.F.Files.told c.args.files.now) (g.F.Files.lost c.args.files.now) c.args.loaded.now c.requires.held c.requires.there;
  told = λ other. refl;
  sure = λ name h. h;
  lost = λ other. refl;
  steady = refl;
  counted = search rules;
}

pub loop-line-preserved : goal.loop-line-preserved
loop-line-preserved g c = record {
  loaded = loaded_more (g.F.Files.told c.args.files.now) (g.F.Files.told c.loop-line.files) (g.F.Files.lost c.args.files.now) (g.F.Files.lost c.loop-line.files)
      c.args.script.now.lines.items c.loop-line.line-index c.line-item.result c.args.loaded.now c.loop-line.loaded c.load_for.new.loaded
      (search rules) (search rules) c.requires.following c.loop-line.invariant.told c.loop-line.invariant.lost c.loop-line.invariant.loaded (search rules);
  told = search rules;
  sure = λ name h. c.load_for.ensures.kept_sure name (c.loop-line.invariant.sure name h);
  lost = search rules;
  steady = search rules;
  counted = search rules;
}

pub returns-in-Err-clause-err : goal.returns-in-Err-clause-err
returns-in-Err-clause-err g c =
    unread_by (LineNames (numbered_of c.line-item.result).line) (Reaches (g.F.Files.lost c.args.files.now) (files_of (lines_of c.args.script.now)))
    (g.F.Files.sure c.args.files.now) (g.F.Files.sure c.loop-line.files) (g.F.Files.faults c.args.files.now) (g.F.Files.faults c.loop-line.files)
    (g.F.Files.faults c.load_for.new.files) (g.F.Files.failed c.load_for.new.files) c.in-Err.error
    (λ name named. reaches_at (g.F.Files.lost c.args.files.now) c.args.script.now.lines.items c.loop-line.line-index c.line-item.result name (search rules) (search rules)
    (read_there (g.F.Files.told c.args.files.now) (g.F.Files.lost c.args.files.now) c.args.loaded.now c.loop-line.loaded
    (map numbered_of (take c.loop-line.line-index c.args.script.now.lines.items)) c.loop-line.invariant.loaded) named)
    c.loop-line.invariant.sure c.loop-line.invariant.counted (search rules)
