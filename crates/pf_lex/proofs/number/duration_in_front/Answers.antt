use Rattle.std.proofs.Common.{◌∙◌, ap, take, Ok, Err}
use Rattle.pf_base.specs.declared.duration.DurationError.TheVariants.{BadForm, TooLarge}
use Rattle.pf_lex.proofs.Quantities.{duration_given, duration_late, duration_wrong}
use Rattle.pf_lex.proofs.number.duration_in_front.Goals as goal

pub returns-in-Ok : goal.returns-in-Ok
returns-in-Ok c =
    let r = (c.read_duration.ensures (Ok c.in-Ok.millis)).0 c.in-Ok.is in
    duration_given c.args.bytes.now c.split_at.result.0.now c.in-Ok.millis (c.split_at.ensures.front ∙ ap (λ n. take n c.args.bytes.now) c.letters_len.ensures.len) r.0 r.1

pub returns-in-Err-TooLarge : goal.returns-in-Err-TooLarge
returns-in-Err-TooLarge c =
    let r = (c.read_duration.ensures (Err TooLarge)).0 (c.in-Err-TooLarge.is ∙ ap Err c.in-Err-TooLarge.field-0-is) in
    duration_late c.args.bytes.now c.split_at.result.0.now r.0 (c.split_at.ensures.front ∙ ap (λ n. take n c.args.bytes.now) c.letters_len.ensures.len) r.1.0 r.1.1

pub returns-in-Err-BadForm : goal.returns-in-Err-BadForm
returns-in-Err-BadForm c =
    let r = (c.read_duration.ensures (Err BadForm)).0 (c.in-Err-BadForm.is ∙ ap Err c.in-Err-BadForm.field-0-is) in
    duration_wrong c.args.bytes.now c.split_at.result.0.now (c.split_at.ensures.front ∙ ap (λ n. take n c.args.bytes.now) c.letters_len.ensures.len) r
