use Rattle.std.proofs.Common.{◌∙◌, ap}
use Rattle.std.specs.Prelude.{option_map}
use Rattle.pf_top.specs.WordSteps.{given_in, next_in, replay_in}
use Rattle.pf_top.proofs.WordLaws.{all_read, none_read}
use Rattle.pf_top.proofs.options.replay_behind.Goals as goal

pub returns-in_err-given : goal.returns-in_err-given
returns-in_err-given c = ap (option_map replay_in) c.from_residual.ensures ∙ none_read c.args.words.now c.in_err-given.ensures

pub returns : goal.returns
returns c =
    c.replay.ensures ∙ all_read c.args.words.now (given_in c.in_ok-given.given, next_in c.in_ok-given.next) c.in_ok-given.ensures
