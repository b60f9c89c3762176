use Rattle.std.proofs.Common.{subst, sym, ap, ◌∙◌}
use Rattle.pf_columns.specs.Columns.{AreRising}
use Rattle.pf_shard.specs.Groups.{AreWithin, keys_in}
use Rattle.pf_shard.proofs.KnownGroups.{keyed_within, keys_of_keyed}
use Rattle.pf_shard.proofs.grouped.Known.steps.Goals as goal

pub invariant_of-result : goal.invariant_of-result
invariant_of-result c =
    let ls = c.args.keys.items in
    let pss = c.args.self in
    let same = c.in_ok-columns.ensures in (
      subst AreRising (sym (ap keys_in same ∙ keys_of_keyed ls pss c.requires.alike)) c.requires.rising,
      subst (AreWithin 4294967295) (sym same) (keyed_within 4294967295 ls pss c.requires.within),
    )
