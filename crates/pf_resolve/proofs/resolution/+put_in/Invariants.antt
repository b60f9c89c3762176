use Rattle.std.proofs.Common.{◌≡◌, map, take}
use Rattle.pf_model.specs.Resolving.{resolved}
use Rattle.pf_model.specs.Trees.{tree_of}
use Rattle.pf_resolve.proofs.resolution.+put_in.Given as goal

abbrev pub invariant-loop-i : goal.invariant-loop-i
invariant-loop-i l = record {
  unvisited : goal.unvisited-loop-i l;
  done : map tree_of (take l.i l.args.items) ≡ map (resolved l.start l.end) (map tree_of (take l.i l.initial.args.items));
}

abbrev pub invariant-loop-k : goal.invariant-loop-k
invariant-loop-k l = record {
  unvisited : goal.unvisited-loop-k l;
  done : map tree_of (take l.k l.args.items) ≡ map (resolved l.start l.end) (map tree_of (take l.k l.initial.args.items));
}
