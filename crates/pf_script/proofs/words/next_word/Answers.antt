use Rattle.std.proofs.Common.{rules, ◌∙◌, ap, sym}
use Rattle.std.specs.List.{position}
use Rattle.pf_model.specs.Exposition.{is_blank}
use Rattle.pf_script.proofs.Blanks.{word_behind}
use Rattle.pf_script.proofs.words.next_word.Goals as goal

pub returns : goal.returns
returns c =
    word_behind c.args.text.now c.range.result.now c.range_from.result.now c.past_blanks.result.now c.in_ok-end.end
    (sym (c.in_ok-end.was) ∙ c.first_blank.ensures.place ∙ ap (position is_blank) c.as_bytes.ensures.value) (search rules) c.if-end-eq0.false c.range.ensures.value c.range_from.ensures.value c.past_blanks.ensures
