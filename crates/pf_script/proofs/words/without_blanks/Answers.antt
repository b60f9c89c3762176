use Rattle.std.proofs.Common.{◌∙◌, ap}
use Rattle.pf_journal.specs.Scripts.{without_blanks}
use Rattle.pf_script.proofs.Blanks.{end_boundary, end_taken}
use Rattle.pf_script.proofs.words.without_blanks.Goals as goal

pub range-requires-clause-end_boundary : goal.range-requires-clause-end_boundary
range-requires-clause-end_boundary c = end_boundary c.args.text.now c.front_of-length.result.now (c.front_of-length.ensures ∙ ap without_blanks c.as_bytes.ensures.value)

pub returns : goal.returns
returns c = c.range.ensures.value ∙ end_taken c.args.text.now c.front_of-length.result.now (c.front_of-length.ensures ∙ ap without_blanks c.as_bytes.ensures.value)
