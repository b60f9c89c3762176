-- Texts and their tokens, computed.
use Rattle.std.proofs.Common.{pos, [], ◌∷◌, refl, codes, arith}
use Rattle.std.specs.Char.{encode_utf8}
use Rattle.pf_base.specs.Arithmetic.{clamp}
use Rattle.pf_model.specs.Tokens.{AreTokens, IsBadToken, word, number, duration, string, sign}
use Rattle.pf_model.proofs.ScannedTokens.{are_tokens, is_bad}

rate_of_a_series : AreTokens (codes "rate(http_requests_total{job=~\"a|b\"}[5m]) > 1.5e-1 # ends") (record { from = 0; to = 4; sort = word (codes "rate") } ∷ record { from = 4; to = 5; sort = sign (codes "(") } ∷ record { from = 5; to = 24; sort = word (codes "http_requests_total") } ∷ record { from = 24; to = 25; sort = sign (codes "{") } ∷ record { from = 25; to = 28; sort = word (codes "job") } ∷ record { from = 28; to = 30; sort = sign (codes "=~") } ∷ record { from = 30; to = 35; sort = string (codes "a|b") } ∷ record { from = 35; to = 36; sort = sign (codes "}") } ∷ record { from = 36; to = 37; sort = sign (codes "[") } ∷ record { from = 37; to = 39; sort = duration 300000 } ∷ record { from = 39; to = 40; sort = sign (codes "]") } ∷ record { from = 40; to = 41; sort = sign (codes ")") } ∷ record { from = 42; to = 43; sort = sign (codes ">") } ∷ record { from = 44; to = 50; sort = number (pos 150000) } ∷ [])
unfolding encode_utf8 clamp
rate_of_a_series = are_tokens (record { begins = (refl, refl, (refl, refl, (refl, refl, (refl, refl, (refl, refl, (refl, refl, (refl, refl, (refl, refl, (refl, refl, (refl, refl, (refl, refl, (refl, refl, (refl, refl, (refl, refl, tt)))))))))))))); whole = refl })

inside_brackets : AreTokens (codes "x[1h30m:15s] @ start() offset -90s") (record { from = 0; to = 1; sort = word (codes "x") } ∷ record { from = 1; to = 2; sort = sign (codes "[") } ∷ record { from = 2; to = 7; sort = duration 5400000 } ∷ record { from = 7; to = 8; sort = sign (codes ":") } ∷ record { from = 8; to = 11; sort = duration 15000 } ∷ record { from = 11; to = 12; sort = sign (codes "]") } ∷ record { from = 13; to = 14; sort = sign (codes "@") } ∷ record { from = 15; to = 20; sort = word (codes "start") } ∷ record { from = 20; to = 21; sort = sign (codes "(") } ∷ record { from = 21; to = 22; sort = sign (codes ")") } ∷ record { from = 23; to = 29; sort = word (codes "offset") } ∷ record { from = 30; to = 31; sort = sign (codes "-") } ∷ record { from = 31; to = 34; sort = duration 90000 } ∷ [])
unfolding encode_utf8 clamp
inside_brackets = are_tokens (record { begins = (refl, refl, (refl, refl, (refl, refl, (refl, refl, (refl, refl, (refl, refl, (refl, refl, (refl, refl, (refl, refl, (refl, refl, (refl, refl, (refl, refl, (refl, refl, tt))))))))))))); whole = refl })

strings : AreTokens (codes "\"a\\n\\u00e9\" '\\'' `\\n`") (record { from = 0; to = 11; sort = string ((97 ∷ 10 ∷ 195 ∷ 169 ∷ [])) } ∷ record { from = 12; to = 16; sort = string (codes "'") } ∷ record { from = 17; to = 21; sort = string (codes "\\n") } ∷ [])
unfolding encode_utf8 clamp
strings = are_tokens (record { begins = (refl, refl, (refl, refl, (refl, refl, tt))); whole = refl })

words : AreTokens (codes "Inf - INFinity:x by") (record { from = 0; to = 3; sort = number (pos 1000000000000000000) } ∷ record { from = 4; to = 5; sort = sign (codes "-") } ∷ record { from = 6; to = 16; sort = word (codes "INFinity:x") } ∷ record { from = 17; to = 19; sort = word (codes "by") } ∷ [])
unfolding encode_utf8 clamp
words = are_tokens (record { begins = (refl, refl, (refl, refl, (refl, refl, (refl, refl, tt)))); whole = refl })

bad_nan : IsBadToken (codes "1 + NaN") 4
unfolding encode_utf8 clamp
bad_nan = is_bad (record { before = record { from = 0; to = 1; sort = number (pos 1000000) } ∷ record { from = 2; to = 3; sort = sign (codes "+") } ∷ []; begins = (refl, refl, (refl, refl, tt)); place = refl; within = omega arith; bad = refl })

bad_number : IsBadToken (codes "5m30 x") 0
unfolding encode_utf8 clamp
bad_number = is_bad (record { before = []; begins = tt; place = refl; within = omega arith; bad = refl })

bad_string : IsBadToken (codes "x{a=\"b") 4
unfolding encode_utf8 clamp
bad_string = is_bad (record { before = record { from = 0; to = 1; sort = word (codes "x") } ∷ record { from = 1; to = 2; sort = sign (codes "{") } ∷ record { from = 2; to = 3; sort = word (codes "a") } ∷ record { from = 3; to = 4; sort = sign (codes "=") } ∷ []; begins = (refl, refl, (refl, refl, (refl, refl, (refl, refl, tt)))); place = refl; within = omega arith; bad = refl })

bad_word_inside : IsBadToken (codes "x[abc]") 2
unfolding encode_utf8 clamp
bad_word_inside = is_bad (record { before = record { from = 0; to = 1; sort = word (codes "x") } ∷ record { from = 1; to = 2; sort = sign (codes "[") } ∷ []; begins = (refl, refl, (refl, refl, tt)); place = refl; within = omega arith; bad = refl })
