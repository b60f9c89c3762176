use Rattle.std.proofs.Common.{◌∙◌, sym, ap, ◌+◌, drop}
use Rattle.pf_parse.specs.Scans.{lost_at}
use Rattle.pf_parse.proofs.Scanning.{lost_found, lost_passed}
use Rattle.pf_parse.proofs.scans.unknown_at.Goals as goal

pub returns-then-is_lost : goal.returns-then-is_lost
returns-then-is_lost c =
    sym (lost_found c.args.text.now c.args.tokens.now c.loop-i.behind_at c.loop-i.i c.index-tokens-i.result c.loop-i-test.true
    c.index-tokens-i.is (sym c.is_lost.ensures ∙ c.if-is_lost.true))
    ∙ c.loop-i.invariant

pub loop-i-preserved : goal.loop-i-preserved
loop-i-preserved c =
    ap (λ b. lost_at c.args.text.now b (drop (c.loop-i.i + 1) c.args.tokens.now)) c.is_at-behind_at.ensures
    ∙ (lost_passed c.args.text.now c.args.tokens.now c.loop-i.behind_at c.loop-i.i c.index-tokens-i.result c.loop-i-test.true
    c.index-tokens-i.is (sym c.is_lost.ensures ∙ c.if-is_lost.false)
    ∙ c.loop-i.invariant)
