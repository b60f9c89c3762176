use Rattle.std.proofs.Common.{◌+◌, ◌/◌, ◌%◌, take, slice_set, ap, ◌∙◌}
use Rattle.pf_base.proofs.Written.{one_in, two_in}
use Rattle.pf_base.proofs.number_text.write_short.Goals as goal
use Rattle.pf_base.proofs.number_text.write_short.Goals.{then-number-lt10, else-number-lt10}

pub returns-clause-written : goal.returns-clause-written
returns-clause-written c =
    let old = c.args.buffer.now in
    let number = c.args.number in
    let put = slice_set old c.args.at (48 + number / 10) in
    elim c.if-number-lt10.branch [
      | then-number-lt10 w ↦ ap (λ last. take (last + 1) (slice_set put last (48 + number % 10))) w.last-is
          ∙ one_in old c.args.at (48 + number / 10) number w.if-number-lt10.true c.requires.room
      | else-number-lt10 w ↦ ap (λ last. take (last + 1) (slice_set put last (48 + number % 10))) w.last-is
          ∙ two_in old c.args.at number w.if-number-lt10.false c.requires.number c.requires.room
    ]
