use Rattle.std.proofs.Common.{arith, map, subst}
use Rattle.pf_model.specs.Tokens.{AreTokens, IsBadToken}
use Rattle.pf_lex.specs.Seen.{token_of}
use Rattle.pf_lex.proofs.Places.{bad_at, one_more, whole}
use Rattle.pf_lex.proofs.lexer.tokens.Goals as goal

pub loop-at-preserved : goal.loop-at-preserved
loop-at-preserved c =
    let s = c.in-Some.ensures in
    record {
      found = one_more c.as_bytes-bytes.result.now c.loop-at.found.items c.push.new.self.items c.in-Some.token c.loop-at.inside c.in-Some.behind c.loop-at.at c.in-Some.next
          c.as_bytes-bytes.ensures.utf8 c.loop-at.invariant.found s.begins s.behind s.next c.in_ok-push.ensures.items;
      within = s.within;
      short = c.loop-at.invariant.short;
    }

pub returns-in_default-clause-fault : goal.returns-in_default-clause-fault
returns-in_default-clause-fault c =
    subst (λ x. IsBadToken x c.loop-at.at) c.as_bytes-bytes.ensures.value
    (bad_at c.as_bytes-bytes.result.now c.loop-at.found.items c.loop-at.inside c.loop-at.at c.loop-at.invariant.found c.loop-at-test.true c.in_default.ensures)

pub returns-clause-tokens : goal.returns-clause-tokens
returns-clause-tokens c =
    subst (λ x. AreTokens x (map (token_of x) c.loop-at.found.items)) c.as_bytes-bytes.ensures.value
    (whole c.as_bytes-bytes.result.now c.loop-at.found.items c.loop-at.inside c.loop-at.at c.loop-at.invariant.found (omega (arith, c.loop-at-test.false, c.loop-at.invariant.within)))
