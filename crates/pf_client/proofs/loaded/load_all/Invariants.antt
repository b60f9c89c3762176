use Rattle.std.proofs.Common.{◌≡◌, ◌≤◌, ℕ, List, map, take}
use Rattle.pf_io.specs.Outside.{StayKnown}
use Rattle.pf_script.specs.Lines.{numbered_of}
use Rattle.pf_client.specs.Files.{AreLoaded}
use Rattle.pf_client.proofs.loaded.load_all.Given as goal

abbrev pub invariant-loop-line : goal.invariant-loop-line
invariant-loop-line g l = record {
  loaded : AreLoaded (g.F.Files.told l.fn.files) (g.F.Files.lost l.fn.files) l.fn.loaded (map numbered_of (take l.line-index l.script.lines.items)) l.loaded;
  told : (other : List ℕ) → g.F.Files.told l.files other ≡ g.F.Files.told l.fn.files other;
  sure : StayKnown (g.F.Files.sure l.fn.files) (g.F.Files.sure l.files);
  lost : (other : List ℕ) → g.F.Files.lost l.files other ≡ g.F.Files.lost l.fn.files other;
  steady : g.F.Files.faults l.files ≡ g.F.Files.faults l.fn.files;
  counted : g.F.Files.faults l.fn.files ≤ g.F.Files.faults l.files;
}
