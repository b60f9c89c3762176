use Rattle.std.proofs.Common.{◌∙◌, length, refl, sym}
use Rattle.pf_lex.proofs.Utf8.{other_length, raw_is, raw_is_none, same_length}
use Rattle.pf_lex.proofs.value.raw_value.Goals as goal

pub returns-then-eq : goal.returns-then-eq
returns-then-eq c =
    c.split_at.ensures.front
    ∙ raw_is c.args.bytes.now (length c.args.bytes.now) (sym c.raw_len.ensures.len ∙ same_length c.raw_len.result (length c.args.bytes.now) (sym c.eq.ensures ∙ c.if-eq.true)) refl

pub returns-else-eq : goal.returns-else-eq
returns-else-eq c =
    c.split_at-else-eq.ensures.front
    ∙ raw_is_none c.args.bytes.now c.raw_len.result (sym c.raw_len.ensures.len) (other_length c.raw_len.result (length c.args.bytes.now) (sym c.eq.ensures ∙ c.if-eq.false))
