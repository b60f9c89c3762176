use Rattle.std.proofs.Common.{sym, ap, ◌∙◌, refl}
use Rattle.std.specs.Result.{result_ok}
use Rattle.pf_base.proofs.Durations.{duration_read}
use Rattle.pf_top.proofs.options.millis_of.Goals as goal

pub returns : goal.returns
returns c =
    c.ok.ensures.value ∙ sym (ap result_ok ((duration_read c.args.value.now c.read_duration.result).1 ((c.read_duration.ensures c.read_duration.result).0 refl)))
