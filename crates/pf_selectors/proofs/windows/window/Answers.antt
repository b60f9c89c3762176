use Rattle.std.proofs.Common.{◌∙◌}
use Rattle.pf_selectors.proofs.Places.{slice_is, slice_rises, within_is}
use Rattle.pf_selectors.proofs.windows.window.Goals as goal

pub of-requires : goal.of-requires
of-requires c =
    slice_rises c.args.from c.args.to c.args.samples.now _ c.requires.rises
    (slice_is c.args.from c.args.to c.args.samples.now c.args.start c.args.end c.requires.rising c.requires.rises c.requires.start c.requires.end)

pub returns-clause-window : goal.returns-clause-window
returns-clause-window c =
    c.of.ensures ∙ slice_is c.args.from c.args.to c.args.samples.now c.args.start c.args.end c.requires.rising c.requires.rises c.requires.start c.requires.end

pub returns-clause-within : goal.returns-clause-within
returns-clause-within c =
    within_is c.args.from c.args.to c.args.samples.now c.of.result
    (c.of.ensures ∙ slice_is c.args.from c.args.to c.args.samples.now c.args.start c.args.end c.requires.rising c.requires.rises c.requires.start c.requires.end)
