-- Texts of queries with an unknown function or a time past the greatest, and the place of the first.
use Rattle.std.proofs.Common.{pos, [], ◌∷◌, refl, codes, arith, Some, None, true, false}
use Rattle.pf_base.specs.Arithmetic.{clamp}
use Rattle.pf_base.specs.NumberTexts as front
use Rattle.pf_model.specs.declared.functions.AggOp.TheVariants as aggregation
use Rattle.pf_model.specs.declared.functions.Sign.TheVariants as operator
use Rattle.pf_model.specs.Grammar.{number, call, aggregate, binary, select, subquery, none, more, absent, time}
use Rattle.pf_model.specs.Parsing.{Refuses, unknown_name, time_too_large}
use Rattle.pf_model.specs.Tokens as token
use Rattle.pf_model.proofs.ScannedTokens.{are_tokens}

-- `sum(rates(up[5m]))`
unknown_function : Refuses (codes "sum(rates(up[5m]))") (unknown_name 4)
unfolding clamp
unknown_function = ((record { from = 0; to = 3; sort = token.word (codes "sum") } ∷ record { from = 3; to = 4; sort = token.sign (codes "(") } ∷ record { from = 4; to = 9; sort = token.word (codes "rates") } ∷ record { from = 9; to = 10; sort = token.sign (codes "(") } ∷ record { from = 10; to = 12; sort = token.word (codes "up") } ∷ record { from = 12; to = 13; sort = token.sign (codes "[") } ∷ record { from = 13; to = 15; sort = token.duration 300000 } ∷ record { from = 15; to = 16; sort = token.sign (codes "]") } ∷ record { from = 16; to = 17; sort = token.sign (codes ")") } ∷ record { from = 17; to = 18; sort = token.sign (codes ")") } ∷ []), (record { shallow = record { cut = record { short = omega arith; are_tokens = are_tokens (record { begins = (refl, refl, (refl, refl, (refl, refl, (refl, refl, (refl, refl, (refl, refl, (refl, refl, (refl, refl, (refl, refl, (refl, refl, tt)))))))))); whole = refl }) }; shallow = refl }; written = (aggregate aggregation.Sum absent (more (call (codes "rates") (more (select (record { metric = (Some (codes "up")); braces = None }) (Some 300000) (record { offset = None; at = None; at_first = false })) none)) none)); derived = record { fits = (refl, (refl, ((refl, refl), (refl, ((refl, refl), (refl, (refl, (refl, (refl, (refl, tt)))))))))); lawful = (tt, ((tt, refl, tt), tt), tt) } }, refl))

-- `RATE(up[5m])`
large_letters : Refuses (codes "RATE(up[5m])") (unknown_name 0)
unfolding clamp
large_letters = ((record { from = 0; to = 4; sort = token.word (codes "RATE") } ∷ record { from = 4; to = 5; sort = token.sign (codes "(") } ∷ record { from = 5; to = 7; sort = token.word (codes "up") } ∷ record { from = 7; to = 8; sort = token.sign (codes "[") } ∷ record { from = 8; to = 10; sort = token.duration 300000 } ∷ record { from = 10; to = 11; sort = token.sign (codes "]") } ∷ record { from = 11; to = 12; sort = token.sign (codes ")") } ∷ []), (record { shallow = record { cut = record { short = omega arith; are_tokens = are_tokens (record { begins = (refl, refl, (refl, refl, (refl, refl, (refl, refl, (refl, refl, (refl, refl, (refl, refl, tt))))))); whole = refl }) }; shallow = refl }; written = (call (codes "RATE") (more (select (record { metric = (Some (codes "up")); braces = None }) (Some 300000) (record { offset = None; at = None; at_first = false })) none)); derived = record { fits = ((refl, refl), (refl, ((refl, refl), (refl, (refl, (refl, (refl, tt))))))); lawful = ((tt, refl, tt), tt) } }, refl))

-- `start() + 1`
start_is_called : Refuses (codes "start() + 1") (unknown_name 0)
unfolding clamp
start_is_called = ((record { from = 0; to = 5; sort = token.word (codes "start") } ∷ record { from = 5; to = 6; sort = token.sign (codes "(") } ∷ record { from = 6; to = 7; sort = token.sign (codes ")") } ∷ record { from = 8; to = 9; sort = token.sign (codes "+") } ∷ record { from = 10; to = 11; sort = token.number (pos 1000000) } ∷ []), (record { shallow = record { cut = record { short = omega arith; are_tokens = are_tokens (record { begins = (refl, refl, (refl, refl, (refl, refl, (refl, refl, (refl, refl, tt))))); whole = refl }) }; shallow = refl }; written = (binary (record { sign = operator.Add; with_bool = false }) None (call (codes "start") none) (number (pos 1000000))); derived = record { fits = ((refl, refl), (refl, (refl, (refl, (refl, tt))))); lawful = (omega arith, omega arith, refl, tt, refl, tt, tt) } }, refl))

-- `f(g(1))`
first_of_two : Refuses (codes "f(g(1))") (unknown_name 0)
unfolding clamp
first_of_two = ((record { from = 0; to = 1; sort = token.word (codes "f") } ∷ record { from = 1; to = 2; sort = token.sign (codes "(") } ∷ record { from = 2; to = 3; sort = token.word (codes "g") } ∷ record { from = 3; to = 4; sort = token.sign (codes "(") } ∷ record { from = 4; to = 5; sort = token.number (pos 1000000) } ∷ record { from = 5; to = 6; sort = token.sign (codes ")") } ∷ record { from = 6; to = 7; sort = token.sign (codes ")") } ∷ []), (record { shallow = record { cut = record { short = omega arith; are_tokens = are_tokens (record { begins = (refl, refl, (refl, refl, (refl, refl, (refl, refl, (refl, refl, (refl, refl, (refl, refl, tt))))))); whole = refl }) }; shallow = refl }; written = (call (codes "f") (more (call (codes "g") (more (number (pos 1000000)) none)) none)); derived = record { fits = ((refl, refl), (refl, ((refl, refl), (refl, (refl, (refl, (refl, tt))))))); lawful = ((tt, tt), tt) } }, refl))

-- `rate(up[140y])`
range_too_large : Refuses (codes "rate(up[140y])") (time_too_large 8)
unfolding clamp
range_too_large = ((record { from = 0; to = 4; sort = token.word (codes "rate") } ∷ record { from = 4; to = 5; sort = token.sign (codes "(") } ∷ record { from = 5; to = 7; sort = token.word (codes "up") } ∷ record { from = 7; to = 8; sort = token.sign (codes "[") } ∷ record { from = 8; to = 12; sort = token.duration 4415040000000 } ∷ record { from = 12; to = 13; sort = token.sign (codes "]") } ∷ record { from = 13; to = 14; sort = token.sign (codes ")") } ∷ []), (record { written = record { shallow = record { cut = record { short = omega arith; are_tokens = are_tokens (record { begins = (refl, refl, (refl, refl, (refl, refl, (refl, refl, (refl, refl, (refl, refl, (refl, refl, tt))))))); whole = refl }) }; shallow = refl }; written = (call (codes "rate") (more (select (record { metric = (Some (codes "up")); braces = None }) (Some 4415040000000) (record { offset = None; at = None; at_first = false })) none)); derived = record { fits = ((refl, refl), (refl, ((refl, refl), (refl, (refl, (refl, (refl, tt))))))); lawful = ((tt, refl, tt), tt) } }; known = refl }, refl))

-- `up offset -200y`
offset_too_large : Refuses (codes "up offset -200y") (time_too_large 11)
unfolding clamp
offset_too_large = ((record { from = 0; to = 2; sort = token.word (codes "up") } ∷ record { from = 3; to = 9; sort = token.word (codes "offset") } ∷ record { from = 10; to = 11; sort = token.sign (codes "-") } ∷ record { from = 11; to = 15; sort = token.duration 6307200000000 } ∷ []), (record { written = record { shallow = record { cut = record { short = omega arith; are_tokens = are_tokens (record { begins = (refl, refl, (refl, refl, (refl, refl, (refl, refl, tt)))); whole = refl }) }; shallow = refl }; written = (select (record { metric = (Some (codes "up")); braces = None }) None (record { offset = (Some (record { minus = true; millis = 6307200000000 })); at = None; at_first = false })); derived = record { fits = ((refl, refl), (refl, (refl, (refl, tt)))); lawful = (tt, tt, tt) } }; known = refl }, refl))

-- `up @ 1e10 + up[200y:]`
time_of_at_too_large : Refuses (codes "up @ 1e10 + up[200y:]") (time_too_large 5)
unfolding clamp
time_of_at_too_large = ((record { from = 0; to = 2; sort = token.word (codes "up") } ∷ record { from = 3; to = 4; sort = token.sign (codes "@") } ∷ record { from = 5; to = 9; sort = token.number (pos 10000000000000000) } ∷ record { from = 10; to = 11; sort = token.sign (codes "+") } ∷ record { from = 12; to = 14; sort = token.word (codes "up") } ∷ record { from = 14; to = 15; sort = token.sign (codes "[") } ∷ record { from = 15; to = 19; sort = token.duration 6307200000000 } ∷ record { from = 19; to = 20; sort = token.sign (codes ":") } ∷ record { from = 20; to = 21; sort = token.sign (codes "]") } ∷ []), (record { written = record { shallow = record { cut = record { short = omega arith; are_tokens = are_tokens (record { begins = (refl, refl, (refl, refl, (refl, refl, (refl, refl, (refl, refl, (refl, refl, (refl, refl, (refl, refl, (refl, refl, tt))))))))); whole = refl }) }; shallow = refl }; written = (binary (record { sign = operator.Add; with_bool = false }) None (select (record { metric = (Some (codes "up")); braces = None }) None (record { offset = None; at = (Some (time front.bare (pos 10000000000000000))); at_first = true })) (subquery (select (record { metric = (Some (codes "up")); braces = None }) None (record { offset = None; at = None; at_first = false })) 6307200000000 None (record { offset = None; at = None; at_first = false }))); derived = record { fits = ((refl, refl), (refl, (refl, (refl, ((refl, refl), (refl, (refl, (refl, (refl, tt))))))))); lawful = (omega arith, omega arith, refl, tt, refl, (tt, tt, refl), (omega arith, (tt, tt, tt), refl, tt, tt)) } }; known = refl }, refl))

-- `up @ +inf`
at_with_a_sign : Refuses (codes "up @ +inf") (time_too_large 6)
unfolding clamp
at_with_a_sign = ((record { from = 0; to = 2; sort = token.word (codes "up") } ∷ record { from = 3; to = 4; sort = token.sign (codes "@") } ∷ record { from = 5; to = 6; sort = token.sign (codes "+") } ∷ record { from = 6; to = 9; sort = token.number (pos 1000000000000000000) } ∷ []), (record { written = record { shallow = record { cut = record { short = omega arith; are_tokens = are_tokens (record { begins = (refl, refl, (refl, refl, (refl, refl, (refl, refl, tt)))); whole = refl }) }; shallow = refl }; written = (select (record { metric = (Some (codes "up")); braces = None }) None (record { offset = None; at = (Some (time front.plus (pos 1000000000000000000))); at_first = true })); derived = record { fits = ((refl, refl), (refl, (refl, (refl, tt)))); lawful = (tt, tt, refl) } }; known = refl }, refl))
