use Rattle.std.proofs.Common.{◌∙◌, sym, ap, codes, subst}
use Rattle.std.specs.Str.{str_eq_ignore_ascii_case}
use Rattle.pf_lex.specs.Scans.{IsInFront}
use Rattle.pf_lex.specs.declared.token.TokenSort.TheVariants.{Number}
use Rattle.pf_lex.proofs.Words.{inf_in_front, nan_in_front, word_in_front}
use Rattle.pf_lex.proofs.word.word_in_front.Goals as goal

pub returns-then-is_same : goal.returns-then-is_same
returns-then-is_same c =
    nan_in_front c.args.bytes.now c.word_len-len.result c.requires c.word_len-len.ensures.len
    (ap (λ w. str_eq_ignore_ascii_case w (codes "nan")) (sym c.split_at.ensures.front) ∙ sym c.is_same.ensures ∙ c.if-is_same.true)

pub returns-then-is_same-2 : goal.returns-then-is_same-2
returns-then-is_same-2 c =
    subst (λ v. IsInFront _ c.args.bytes.now (Number v) c.word_len-len.result) (sym c.greatest.ensures)
    (inf_in_front c.args.bytes.now c.word_len-len.result c.requires c.word_len-len.ensures.len
    (ap (λ w. str_eq_ignore_ascii_case w (codes "inf")) (sym c.split_at.ensures.front) ∙ sym c.is_same-else-is_same.ensures ∙ c.if-is_same-2.true))

pub returns-else-is_same-2 : goal.returns-else-is_same-2
returns-else-is_same-2 c =
    word_in_front c.args.bytes.now c.word_len-len.result c.requires c.word_len-len.ensures.len
    (ap (λ w. str_eq_ignore_ascii_case w (codes "nan")) (sym c.split_at.ensures.front) ∙ sym c.is_same.ensures ∙ c.if-is_same.false)
    (ap (λ w. str_eq_ignore_ascii_case w (codes "inf")) (sym c.split_at.ensures.front) ∙ sym c.is_same-else-is_same.ensures ∙ c.if-is_same-2.false)
