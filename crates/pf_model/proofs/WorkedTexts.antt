-- Texts of queries with their trees, canonical texts and kinds, computed.
use Rattle.std.proofs.Common.{◌≡◌, pos, negsuc, [], ◌∷◌, refl, codes, arith, Some, None, Ok, Err, true, false}
use Rattle.std.specs.Char.{encode_utf8}
use Rattle.std.specs.Fmt.{digits}
use Rattle.pf_base.specs.Arithmetic.{clamp}
use Rattle.pf_base.specs.NumberTexts as front
use Rattle.pf_base.specs.NumberTexts.{without_end_zeros}
use Rattle.pf_model.specs.declared.expr.At.TheVariants as at
use Rattle.pf_model.specs.declared.expr.Function.TheVariants as called
use Rattle.pf_model.specs.declared.expr.Kind.TheVariants as kind
use Rattle.pf_model.specs.declared.expr.MatchSign.TheVariants as match
use Rattle.pf_model.specs.declared.expr.Side.TheVariants as side
use Rattle.pf_model.specs.declared.functions.AggOp.TheVariants as aggregation
use Rattle.pf_model.specs.declared.functions.InstantFn.TheVariants as instant
use Rattle.pf_model.specs.declared.functions.RangeFn.TheVariants as ranged
use Rattle.pf_model.specs.declared.functions.Sign.TheVariants as operator
use Rattle.pf_model.specs.Canonical.{canonical}
use Rattle.pf_model.specs.Grammar.{number, text, brackets, call, aggregate, unary, binary, select, subquery, none, more, absent, before, behind, time, end}
use Rattle.pf_model.specs.Parsing.{Parses}
use Rattle.pf_model.specs.Tokens as token
use Rattle.pf_model.specs.Trees as tree
use Rattle.pf_model.specs.Trees.{Tree}
use Rattle.pf_model.specs.Typing.{typing, wrong}
use Rattle.pf_model.proofs.ScannedTokens.{are_tokens}

-- `sum by (job) (rate(http_requests_total{job=~"a|b",code!="500"}[5m] offset -1m))`
abbrev rate_by_job_tree : Tree
rate_by_job_tree = (tree.aggregate aggregation.Sum (record { without = false; labels = (codes "job" ∷ []) }) (tree.more (tree.call (called.Range ranged.Rate) (tree.more (tree.select ((record { label = codes "__name__"; sign = match.Equal; text = codes "http_requests_total" }) ∷ (record { label = codes "job"; sign = match.Like; text = codes "a|b" }) ∷ (record { label = codes "code"; sign = match.NotEqual; text = codes "500" }) ∷ []) (Some 300000) (record { at = None; offset = (negsuc 59999) })) tree.none)) tree.none))

rate_by_job : Parses (codes "sum by (job) (rate(http_requests_total{job=~\"a|b\",code!=\"500\"}[5m] offset -1m))") rate_by_job_tree
unfolding encode_utf8 clamp
rate_by_job = record {
  is_tree = record {
    tokens = (record { from = 0; to = 3; sort = token.word (codes "sum") } ∷ record { from = 4; to = 6; sort = token.word (codes "by") } ∷ record { from = 7; to = 8; sort = token.sign (codes "(") } ∷ record { from = 8; to = 11; sort = token.word (codes "job") } ∷ record { from = 11; to = 12; sort = token.sign (codes ")") } ∷ record { from = 13; to = 14; sort = token.sign (codes "(") } ∷ record { from = 14; to = 18; sort = token.word (codes "rate") } ∷ record { from = 18; to = 19; sort = token.sign (codes "(") } ∷ record { from = 19; to = 38; sort = token.word (codes "http_requests_total") } ∷ record { from = 38; to = 39; sort = token.sign (codes "{") } ∷ record { from = 39; to = 42; sort = token.word (codes "job") } ∷ record { from = 42; to = 44; sort = token.sign (codes "=~") } ∷ record { from = 44; to = 49; sort = token.string (codes "a|b") } ∷ record { from = 49; to = 50; sort = token.sign (codes ",") } ∷ record { from = 50; to = 54; sort = token.word (codes "code") } ∷ record { from = 54; to = 56; sort = token.sign (codes "!=") } ∷ record { from = 56; to = 61; sort = token.string (codes "500") } ∷ record { from = 61; to = 62; sort = token.sign (codes "}") } ∷ record { from = 62; to = 63; sort = token.sign (codes "[") } ∷ record { from = 63; to = 65; sort = token.duration 300000 } ∷ record { from = 65; to = 66; sort = token.sign (codes "]") } ∷ record { from = 67; to = 73; sort = token.word (codes "offset") } ∷ record { from = 74; to = 75; sort = token.sign (codes "-") } ∷ record { from = 75; to = 77; sort = token.duration 60000 } ∷ record { from = 77; to = 78; sort = token.sign (codes ")") } ∷ record { from = 78; to = 79; sort = token.sign (codes ")") } ∷ []);
    known = record {
      written = record {
        shallow = record {
          cut = record { short = omega arith; are_tokens = are_tokens (record { begins = (refl, refl, (refl, refl, (refl, refl, (refl, refl, (refl, refl, (refl, refl, (refl, refl, (refl, refl, (refl, refl, (refl, refl, (refl, refl, (refl, refl, (refl, refl, (refl, refl, (refl, refl, (refl, refl, (refl, refl, (refl, refl, (refl, refl, (refl, refl, (refl, refl, (refl, refl, (refl, refl, (refl, refl, (refl, refl, (refl, refl, tt)))))))))))))))))))))))))); whole = refl }) };
          shallow = refl;
        };
        written = (aggregate aggregation.Sum (before false (record { labels = (codes "job" ∷ []); comma = false })) (more (call (codes "rate") (more (select (record { metric = (Some (codes "http_requests_total")); braces = (Some (record { matchers = ((record { label = codes "job"; sign = match.Like; text = codes "a|b" }) ∷ (record { label = codes "code"; sign = match.NotEqual; text = codes "500" }) ∷ []); comma = false })) }) (Some 300000) (record { offset = (Some (record { minus = true; millis = 60000 })); at = None; at_first = false })) none)) none));
        derived = record { fits = (refl, (refl, (refl, ((refl, refl), (refl, (refl, ((refl, refl), (refl, ((refl, refl), (refl, ((refl, refl), (refl, (refl, (refl, ((refl, refl), (refl, (refl, (refl, (refl, (refl, (refl, (refl, (refl, (refl, (refl, (refl, tt)))))))))))))))))))))))))); lawful = (refl, (((refl, refl), refl, tt), tt), tt) };
      };
      known = refl;
    };
    times = refl;
    derives = record { written = (aggregate aggregation.Sum (before false (record { labels = (codes "job" ∷ []); comma = false })) (more (call (codes "rate") (more (select (record { metric = (Some (codes "http_requests_total")); braces = (Some (record { matchers = ((record { label = codes "job"; sign = match.Like; text = codes "a|b" }) ∷ (record { label = codes "code"; sign = match.NotEqual; text = codes "500" }) ∷ []); comma = false })) }) (Some 300000) (record { offset = (Some (record { minus = true; millis = 60000 })); at = None; at_first = false })) none)) none)); derived = record { fits = (refl, (refl, (refl, ((refl, refl), (refl, (refl, ((refl, refl), (refl, ((refl, refl), (refl, ((refl, refl), (refl, (refl, (refl, ((refl, refl), (refl, (refl, (refl, (refl, (refl, (refl, (refl, (refl, (refl, (refl, (refl, tt)))))))))))))))))))))))))); lawful = (refl, (((refl, refl), refl, tt), tt), tt) }; means = refl };
  };
  low = omega arith;
}

rate_by_job_text : canonical rate_by_job_tree ≡ codes "sum by (job) (rate({__name__=\"http_requests_total\",job=~\"a|b\",code!=\"500\"}[300000ms] offset -60000ms))"
unfolding digits without_end_zeros
rate_by_job_text = refl

rate_by_job_kind : typing rate_by_job_tree ≡ Ok kind.Instant
rate_by_job_kind = refl

-- `1 + 2 * 3 == bool 4 or vector(1)`
abbrev precedence_tree : Tree
precedence_tree = (tree.binary (record { sign = operator.Or; with_bool = false }) (record { on = false; labels = []; side = side.One; include = [] }) (tree.binary (record { sign = operator.Equal; with_bool = true }) (record { on = false; labels = []; side = side.One; include = [] }) (tree.binary (record { sign = operator.Add; with_bool = false }) (record { on = false; labels = []; side = side.One; include = [] }) (tree.number (pos 1000000)) (tree.binary (record { sign = operator.Mul; with_bool = false }) (record { on = false; labels = []; side = side.One; include = [] }) (tree.number (pos 2000000)) (tree.number (pos 3000000)))) (tree.number (pos 4000000))) (tree.call (called.Instant instant.Vector) (tree.more (tree.number (pos 1000000)) tree.none)))

precedence : Parses (codes "1 + 2 * 3 == bool 4 or vector(1)") precedence_tree
unfolding encode_utf8 clamp
precedence = record {
  is_tree = record {
    tokens = (record { from = 0; to = 1; sort = token.number (pos 1000000) } ∷ record { from = 2; to = 3; sort = token.sign (codes "+") } ∷ record { from = 4; to = 5; sort = token.number (pos 2000000) } ∷ record { from = 6; to = 7; sort = token.sign (codes "*") } ∷ record { from = 8; to = 9; sort = token.number (pos 3000000) } ∷ record { from = 10; to = 12; sort = token.sign (codes "==") } ∷ record { from = 13; to = 17; sort = token.word (codes "bool") } ∷ record { from = 18; to = 19; sort = token.number (pos 4000000) } ∷ record { from = 20; to = 22; sort = token.word (codes "or") } ∷ record { from = 23; to = 29; sort = token.word (codes "vector") } ∷ record { from = 29; to = 30; sort = token.sign (codes "(") } ∷ record { from = 30; to = 31; sort = token.number (pos 1000000) } ∷ record { from = 31; to = 32; sort = token.sign (codes ")") } ∷ []);
    known = record {
      written = record {
        shallow = record {
          cut = record { short = omega arith; are_tokens = are_tokens (record { begins = (refl, refl, (refl, refl, (refl, refl, (refl, refl, (refl, refl, (refl, refl, (refl, refl, (refl, refl, (refl, refl, (refl, refl, (refl, refl, (refl, refl, (refl, refl, tt))))))))))))); whole = refl }) };
          shallow = refl;
        };
        written = (binary (record { sign = operator.Or; with_bool = false }) None (binary (record { sign = operator.Equal; with_bool = true }) None (binary (record { sign = operator.Add; with_bool = false }) None (number (pos 1000000)) (binary (record { sign = operator.Mul; with_bool = false }) None (number (pos 2000000)) (number (pos 3000000)))) (number (pos 4000000))) (call (codes "vector") (more (number (pos 1000000)) none)));
        derived = record { fits = (refl, (refl, (refl, (refl, (refl, (refl, (refl, (refl, (refl, ((refl, refl), (refl, (refl, (refl, tt))))))))))))); lawful = (omega arith, omega arith, refl, tt, refl, (omega arith, omega arith, refl, tt, refl, (omega arith, omega arith, refl, tt, refl, tt, (omega arith, omega arith, refl, tt, refl, tt, tt)), tt), (tt, tt)) };
      };
      known = refl;
    };
    times = refl;
    derives = record { written = (binary (record { sign = operator.Or; with_bool = false }) None (binary (record { sign = operator.Equal; with_bool = true }) None (binary (record { sign = operator.Add; with_bool = false }) None (number (pos 1000000)) (binary (record { sign = operator.Mul; with_bool = false }) None (number (pos 2000000)) (number (pos 3000000)))) (number (pos 4000000))) (call (codes "vector") (more (number (pos 1000000)) none))); derived = record { fits = (refl, (refl, (refl, (refl, (refl, (refl, (refl, (refl, (refl, ((refl, refl), (refl, (refl, (refl, tt))))))))))))); lawful = (omega arith, omega arith, refl, tt, refl, (omega arith, omega arith, refl, tt, refl, (omega arith, omega arith, refl, tt, refl, tt, (omega arith, omega arith, refl, tt, refl, tt, tt)), tt), (tt, tt)) }; means = refl };
  };
  low = omega arith;
}

precedence_text : canonical precedence_tree ≡ codes "(((1) + ((2) * (3))) == bool (4)) or (vector(1))"
unfolding digits without_end_zeros
precedence_text = refl

precedence_kind : typing precedence_tree ≡ Err (wrong 0 kind.Instant kind.Scalar)
precedence_kind = refl

-- `- - x @ 1.5 offset 5m % +2`
abbrev signs_tree : Tree
signs_tree = (tree.binary (record { sign = operator.Rem; with_bool = false }) (record { on = false; labels = []; side = side.One; include = [] }) (tree.unary true (tree.unary true (tree.select ((record { label = codes "__name__"; sign = match.Equal; text = codes "x" }) ∷ []) None (record { at = (Some (at.Time 1500)); offset = (pos 300000) })))) (tree.unary false (tree.number (pos 2000000))))

signs : Parses (codes "- - x @ 1.5 offset 5m % +2") signs_tree
unfolding encode_utf8 clamp
signs = record {
  is_tree = record {
    tokens = (record { from = 0; to = 1; sort = token.sign (codes "-") } ∷ record { from = 2; to = 3; sort = token.sign (codes "-") } ∷ record { from = 4; to = 5; sort = token.word (codes "x") } ∷ record { from = 6; to = 7; sort = token.sign (codes "@") } ∷ record { from = 8; to = 11; sort = token.number (pos 1500000) } ∷ record { from = 12; to = 18; sort = token.word (codes "offset") } ∷ record { from = 19; to = 21; sort = token.duration 300000 } ∷ record { from = 22; to = 23; sort = token.sign (codes "%") } ∷ record { from = 24; to = 25; sort = token.sign (codes "+") } ∷ record { from = 25; to = 26; sort = token.number (pos 2000000) } ∷ []);
    known = record {
      written = record {
        shallow = record {
          cut = record { short = omega arith; are_tokens = are_tokens (record { begins = (refl, refl, (refl, refl, (refl, refl, (refl, refl, (refl, refl, (refl, refl, (refl, refl, (refl, refl, (refl, refl, (refl, refl, tt)))))))))); whole = refl }) };
          shallow = refl;
        };
        written = (binary (record { sign = operator.Rem; with_bool = false }) None (unary true (unary true (select (record { metric = (Some (codes "x")); braces = None }) None (record { offset = (Some (record { minus = false; millis = 300000 })); at = (Some (time front.bare (pos 1500000))); at_first = true })))) (unary false (number (pos 2000000))));
        derived = record { fits = (refl, (refl, ((refl, refl), (refl, (refl, (refl, (refl, (refl, (refl, (refl, tt)))))))))); lawful = (omega arith, omega arith, refl, tt, refl, (omega arith, (omega arith, (tt, tt, refl))), (omega arith, tt)) };
      };
      known = refl;
    };
    times = refl;
    derives = record { written = (binary (record { sign = operator.Rem; with_bool = false }) None (unary true (unary true (select (record { metric = (Some (codes "x")); braces = None }) None (record { offset = (Some (record { minus = false; millis = 300000 })); at = (Some (time front.bare (pos 1500000))); at_first = true })))) (unary false (number (pos 2000000)))); derived = record { fits = (refl, (refl, ((refl, refl), (refl, (refl, (refl, (refl, (refl, (refl, (refl, tt)))))))))); lawful = (omega arith, omega arith, refl, tt, refl, (omega arith, (omega arith, (tt, tt, refl))), (omega arith, tt)) }; means = refl };
  };
  low = omega arith;
}

signs_text : canonical signs_tree ≡ codes "(-(-({__name__=\"x\"} @ 1.5 offset 300000ms))) % (+(2))"
unfolding digits without_end_zeros
signs_text = refl

signs_kind : typing signs_tree ≡ Ok kind.Instant
signs_kind = refl

-- `a / on (job, pod,) group_left (node) {b="c",} unless b`
abbrev matching_tree : Tree
matching_tree = (tree.binary (record { sign = operator.Unless; with_bool = false }) (record { on = false; labels = []; side = side.One; include = [] }) (tree.binary (record { sign = operator.Div; with_bool = false }) (record { on = true; labels = (codes "job" ∷ codes "pod" ∷ []); side = side.Left; include = (codes "node" ∷ []) }) (tree.select ((record { label = codes "__name__"; sign = match.Equal; text = codes "a" }) ∷ []) None (record { at = None; offset = (pos 0) })) (tree.select ((record { label = codes "b"; sign = match.Equal; text = codes "c" }) ∷ []) None (record { at = None; offset = (pos 0) }))) (tree.select ((record { label = codes "__name__"; sign = match.Equal; text = codes "b" }) ∷ []) None (record { at = None; offset = (pos 0) })))

matching : Parses (codes "a / on (job, pod,) group_left (node) {b=\"c\",} unless b") matching_tree
unfolding encode_utf8 clamp
matching = record {
  is_tree = record {
    tokens = (record { from = 0; to = 1; sort = token.word (codes "a") } ∷ record { from = 2; to = 3; sort = token.sign (codes "/") } ∷ record { from = 4; to = 6; sort = token.word (codes "on") } ∷ record { from = 7; to = 8; sort = token.sign (codes "(") } ∷ record { from = 8; to = 11; sort = token.word (codes "job") } ∷ record { from = 11; to = 12; sort = token.sign (codes ",") } ∷ record { from = 13; to = 16; sort = token.word (codes "pod") } ∷ record { from = 16; to = 17; sort = token.sign (codes ",") } ∷ record { from = 17; to = 18; sort = token.sign (codes ")") } ∷ record { from = 19; to = 29; sort = token.word (codes "group_left") } ∷ record { from = 30; to = 31; sort = token.sign (codes "(") } ∷ record { from = 31; to = 35; sort = token.word (codes "node") } ∷ record { from = 35; to = 36; sort = token.sign (codes ")") } ∷ record { from = 37; to = 38; sort = token.sign (codes "{") } ∷ record { from = 38; to = 39; sort = token.word (codes "b") } ∷ record { from = 39; to = 40; sort = token.sign (codes "=") } ∷ record { from = 40; to = 43; sort = token.string (codes "c") } ∷ record { from = 43; to = 44; sort = token.sign (codes ",") } ∷ record { from = 44; to = 45; sort = token.sign (codes "}") } ∷ record { from = 46; to = 52; sort = token.word (codes "unless") } ∷ record { from = 53; to = 54; sort = token.word (codes "b") } ∷ []);
    known = record {
      written = record {
        shallow = record {
          cut = record { short = omega arith; are_tokens = are_tokens (record { begins = (refl, refl, (refl, refl, (refl, refl, (refl, refl, (refl, refl, (refl, refl, (refl, refl, (refl, refl, (refl, refl, (refl, refl, (refl, refl, (refl, refl, (refl, refl, (refl, refl, (refl, refl, (refl, refl, (refl, refl, (refl, refl, (refl, refl, (refl, refl, (refl, refl, tt))))))))))))))))))))); whole = refl }) };
          shallow = refl;
        };
        written = (binary (record { sign = operator.Unless; with_bool = false }) None (binary (record { sign = operator.Div; with_bool = false }) (Some (record { on = true; labels = (record { labels = (codes "job" ∷ codes "pod" ∷ []); comma = true }); group = (Some (record { left = true; include = (Some (record { labels = (codes "node" ∷ []); comma = false })) })) })) (select (record { metric = (Some (codes "a")); braces = None }) None (record { offset = None; at = None; at_first = false })) (select (record { metric = None; braces = (Some (record { matchers = ((record { label = codes "b"; sign = match.Equal; text = codes "c" }) ∷ []); comma = true })) }) None (record { offset = None; at = None; at_first = false }))) (select (record { metric = (Some (codes "b")); braces = None }) None (record { offset = None; at = None; at_first = false })));
        derived = record { fits = ((refl, refl), (refl, (refl, (refl, ((refl, refl), (refl, ((refl, refl), (refl, (refl, (refl, (refl, ((refl, refl), (refl, (refl, ((refl, refl), (refl, (refl, (refl, (refl, (refl, ((refl, refl), tt))))))))))))))))))))); lawful = (omega arith, omega arith, refl, tt, refl, (omega arith, omega arith, refl, (refl, refl), refl, (tt, tt, tt), (refl, tt, tt)), (tt, tt, tt)) };
      };
      known = refl;
    };
    times = refl;
    derives = record { written = (binary (record { sign = operator.Unless; with_bool = false }) None (binary (record { sign = operator.Div; with_bool = false }) (Some (record { on = true; labels = (record { labels = (codes "job" ∷ codes "pod" ∷ []); comma = true }); group = (Some (record { left = true; include = (Some (record { labels = (codes "node" ∷ []); comma = false })) })) })) (select (record { metric = (Some (codes "a")); braces = None }) None (record { offset = None; at = None; at_first = false })) (select (record { metric = None; braces = (Some (record { matchers = ((record { label = codes "b"; sign = match.Equal; text = codes "c" }) ∷ []); comma = true })) }) None (record { offset = None; at = None; at_first = false }))) (select (record { metric = (Some (codes "b")); braces = None }) None (record { offset = None; at = None; at_first = false }))); derived = record { fits = ((refl, refl), (refl, (refl, (refl, ((refl, refl), (refl, ((refl, refl), (refl, (refl, (refl, (refl, ((refl, refl), (refl, (refl, ((refl, refl), (refl, (refl, (refl, (refl, (refl, ((refl, refl), tt))))))))))))))))))))); lawful = (omega arith, omega arith, refl, tt, refl, (omega arith, omega arith, refl, (refl, refl), refl, (tt, tt, tt), (refl, tt, tt)), (tt, tt, tt)) }; means = refl };
  };
  low = omega arith;
}

matching_text : canonical matching_tree ≡ codes "(({__name__=\"a\"}) / on (job, pod) group_left (node) ({b=\"c\"})) unless ({__name__=\"b\"})"
unfolding digits without_end_zeros
matching_text = refl

matching_kind : typing matching_tree ≡ Ok kind.Instant
matching_kind = refl

-- `a + ignoring (x) group_right b`
abbrev group_without_labels_tree : Tree
group_without_labels_tree = (tree.binary (record { sign = operator.Add; with_bool = false }) (record { on = false; labels = (codes "x" ∷ []); side = side.Right; include = [] }) (tree.select ((record { label = codes "__name__"; sign = match.Equal; text = codes "a" }) ∷ []) None (record { at = None; offset = (pos 0) })) (tree.select ((record { label = codes "__name__"; sign = match.Equal; text = codes "b" }) ∷ []) None (record { at = None; offset = (pos 0) })))

group_without_labels : Parses (codes "a + ignoring (x) group_right b") group_without_labels_tree
unfolding encode_utf8 clamp
group_without_labels = record {
  is_tree = record {
    tokens = (record { from = 0; to = 1; sort = token.word (codes "a") } ∷ record { from = 2; to = 3; sort = token.sign (codes "+") } ∷ record { from = 4; to = 12; sort = token.word (codes "ignoring") } ∷ record { from = 13; to = 14; sort = token.sign (codes "(") } ∷ record { from = 14; to = 15; sort = token.word (codes "x") } ∷ record { from = 15; to = 16; sort = token.sign (codes ")") } ∷ record { from = 17; to = 28; sort = token.word (codes "group_right") } ∷ record { from = 29; to = 30; sort = token.word (codes "b") } ∷ []);
    known = record {
      written = record {
        shallow = record {
          cut = record { short = omega arith; are_tokens = are_tokens (record { begins = (refl, refl, (refl, refl, (refl, refl, (refl, refl, (refl, refl, (refl, refl, (refl, refl, (refl, refl, tt)))))))); whole = refl }) };
          shallow = refl;
        };
        written = (binary (record { sign = operator.Add; with_bool = false }) (Some (record { on = false; labels = (record { labels = (codes "x" ∷ []); comma = false }); group = (Some (record { left = false; include = None })) })) (select (record { metric = (Some (codes "a")); braces = None }) None (record { offset = None; at = None; at_first = false })) (select (record { metric = (Some (codes "b")); braces = None }) None (record { offset = None; at = None; at_first = false })));
        derived = record { fits = ((refl, refl), (refl, (refl, (refl, ((refl, refl), (refl, (refl, ((refl, refl), tt)))))))); lawful = (omega arith, omega arith, refl, (refl, tt), refl, (tt, tt, tt), (tt, tt, tt)) };
      };
      known = refl;
    };
    times = refl;
    derives = record { written = (binary (record { sign = operator.Add; with_bool = false }) (Some (record { on = false; labels = (record { labels = (codes "x" ∷ []); comma = false }); group = (Some (record { left = false; include = None })) })) (select (record { metric = (Some (codes "a")); braces = None }) None (record { offset = None; at = None; at_first = false })) (select (record { metric = (Some (codes "b")); braces = None }) None (record { offset = None; at = None; at_first = false }))); derived = record { fits = ((refl, refl), (refl, (refl, (refl, ((refl, refl), (refl, (refl, ((refl, refl), tt)))))))); lawful = (omega arith, omega arith, refl, (refl, tt), refl, (tt, tt, tt), (tt, tt, tt)) }; means = refl };
  };
  low = omega arith;
}

group_without_labels_text : canonical group_without_labels_tree ≡ codes "({__name__=\"a\"}) + ignoring (x) group_right () ({__name__=\"b\"})"
unfolding digits without_end_zeros
group_without_labels_text = refl

group_without_labels_kind : typing group_without_labels_tree ≡ Ok kind.Instant
group_without_labels_kind = refl

-- `max_over_time((a + b)[1h30m:15s] @ end())`
abbrev subquery_at_end_tree : Tree
subquery_at_end_tree = (tree.call (called.Range ranged.MaxOverTime) (tree.more (tree.subquery (tree.binary (record { sign = operator.Add; with_bool = false }) (record { on = false; labels = []; side = side.One; include = [] }) (tree.select ((record { label = codes "__name__"; sign = match.Equal; text = codes "a" }) ∷ []) None (record { at = None; offset = (pos 0) })) (tree.select ((record { label = codes "__name__"; sign = match.Equal; text = codes "b" }) ∷ []) None (record { at = None; offset = (pos 0) }))) 5400000 (Some 15000) (record { at = (Some at.End); offset = (pos 0) })) tree.none))

subquery_at_end : Parses (codes "max_over_time((a + b)[1h30m:15s] @ end())") subquery_at_end_tree
unfolding encode_utf8 clamp
subquery_at_end = record {
  is_tree = record {
    tokens = (record { from = 0; to = 13; sort = token.word (codes "max_over_time") } ∷ record { from = 13; to = 14; sort = token.sign (codes "(") } ∷ record { from = 14; to = 15; sort = token.sign (codes "(") } ∷ record { from = 15; to = 16; sort = token.word (codes "a") } ∷ record { from = 17; to = 18; sort = token.sign (codes "+") } ∷ record { from = 19; to = 20; sort = token.word (codes "b") } ∷ record { from = 20; to = 21; sort = token.sign (codes ")") } ∷ record { from = 21; to = 22; sort = token.sign (codes "[") } ∷ record { from = 22; to = 27; sort = token.duration 5400000 } ∷ record { from = 27; to = 28; sort = token.sign (codes ":") } ∷ record { from = 28; to = 31; sort = token.duration 15000 } ∷ record { from = 31; to = 32; sort = token.sign (codes "]") } ∷ record { from = 33; to = 34; sort = token.sign (codes "@") } ∷ record { from = 35; to = 38; sort = token.word (codes "end") } ∷ record { from = 38; to = 39; sort = token.sign (codes "(") } ∷ record { from = 39; to = 40; sort = token.sign (codes ")") } ∷ record { from = 40; to = 41; sort = token.sign (codes ")") } ∷ []);
    known = record {
      written = record {
        shallow = record {
          cut = record { short = omega arith; are_tokens = are_tokens (record { begins = (refl, refl, (refl, refl, (refl, refl, (refl, refl, (refl, refl, (refl, refl, (refl, refl, (refl, refl, (refl, refl, (refl, refl, (refl, refl, (refl, refl, (refl, refl, (refl, refl, (refl, refl, (refl, refl, (refl, refl, tt))))))))))))))))); whole = refl }) };
          shallow = refl;
        };
        written = (call (codes "max_over_time") (more (subquery (brackets (binary (record { sign = operator.Add; with_bool = false }) None (select (record { metric = (Some (codes "a")); braces = None }) None (record { offset = None; at = None; at_first = false })) (select (record { metric = (Some (codes "b")); braces = None }) None (record { offset = None; at = None; at_first = false })))) 5400000 (Some 15000) (record { offset = None; at = (Some end); at_first = true })) none));
        derived = record { fits = ((refl, refl), (refl, (refl, ((refl, refl), (refl, ((refl, refl), (refl, (refl, (refl, (refl, (refl, (refl, (refl, (refl, (refl, (refl, (refl, tt))))))))))))))))); lawful = ((omega arith, (omega arith, omega arith, refl, tt, refl, (tt, tt, tt), (tt, tt, tt)), refl, refl, tt), tt) };
      };
      known = refl;
    };
    times = refl;
    derives = record { written = (call (codes "max_over_time") (more (subquery (brackets (binary (record { sign = operator.Add; with_bool = false }) None (select (record { metric = (Some (codes "a")); braces = None }) None (record { offset = None; at = None; at_first = false })) (select (record { metric = (Some (codes "b")); braces = None }) None (record { offset = None; at = None; at_first = false })))) 5400000 (Some 15000) (record { offset = None; at = (Some end); at_first = true })) none)); derived = record { fits = ((refl, refl), (refl, (refl, ((refl, refl), (refl, ((refl, refl), (refl, (refl, (refl, (refl, (refl, (refl, (refl, (refl, (refl, (refl, (refl, tt))))))))))))))))); lawful = ((omega arith, (omega arith, omega arith, refl, tt, refl, (tt, tt, tt), (tt, tt, tt)), refl, refl, tt), tt) }; means = refl };
  };
  low = omega arith;
}

subquery_text : canonical subquery_at_end_tree ≡ codes "max_over_time((({__name__=\"a\"}) + ({__name__=\"b\"}))[5400000ms:15000ms] @ end())"
unfolding digits without_end_zeros
subquery_text = refl

subquery_kind : typing subquery_at_end_tree ≡ Ok kind.Instant
subquery_kind = refl

-- `SUM(x{by="on"}) WITHOUT (sum, __name__)`
abbrev keywords_as_labels_tree : Tree
keywords_as_labels_tree = (tree.aggregate aggregation.Sum (record { without = true; labels = (codes "sum" ∷ codes "__name__" ∷ []) }) (tree.more (tree.select ((record { label = codes "__name__"; sign = match.Equal; text = codes "x" }) ∷ (record { label = codes "by"; sign = match.Equal; text = codes "on" }) ∷ []) None (record { at = None; offset = (pos 0) })) tree.none))

keywords_as_labels : Parses (codes "SUM(x{by=\"on\"}) WITHOUT (sum, __name__)") keywords_as_labels_tree
unfolding encode_utf8 clamp
keywords_as_labels = record {
  is_tree = record {
    tokens = (record { from = 0; to = 3; sort = token.word (codes "SUM") } ∷ record { from = 3; to = 4; sort = token.sign (codes "(") } ∷ record { from = 4; to = 5; sort = token.word (codes "x") } ∷ record { from = 5; to = 6; sort = token.sign (codes "{") } ∷ record { from = 6; to = 8; sort = token.word (codes "by") } ∷ record { from = 8; to = 9; sort = token.sign (codes "=") } ∷ record { from = 9; to = 13; sort = token.string (codes "on") } ∷ record { from = 13; to = 14; sort = token.sign (codes "}") } ∷ record { from = 14; to = 15; sort = token.sign (codes ")") } ∷ record { from = 16; to = 23; sort = token.word (codes "WITHOUT") } ∷ record { from = 24; to = 25; sort = token.sign (codes "(") } ∷ record { from = 25; to = 28; sort = token.word (codes "sum") } ∷ record { from = 28; to = 29; sort = token.sign (codes ",") } ∷ record { from = 30; to = 38; sort = token.word (codes "__name__") } ∷ record { from = 38; to = 39; sort = token.sign (codes ")") } ∷ []);
    known = record {
      written = record {
        shallow = record {
          cut = record { short = omega arith; are_tokens = are_tokens (record { begins = (refl, refl, (refl, refl, (refl, refl, (refl, refl, (refl, refl, (refl, refl, (refl, refl, (refl, refl, (refl, refl, (refl, refl, (refl, refl, (refl, refl, (refl, refl, (refl, refl, (refl, refl, tt))))))))))))))); whole = refl }) };
          shallow = refl;
        };
        written = (aggregate aggregation.Sum (behind true (record { labels = (codes "sum" ∷ codes "__name__" ∷ []); comma = false })) (more (select (record { metric = (Some (codes "x")); braces = (Some (record { matchers = ((record { label = codes "by"; sign = match.Equal; text = codes "on" }) ∷ []); comma = false })) }) None (record { offset = None; at = None; at_first = false })) none));
        derived = record { fits = (refl, (refl, ((refl, refl), (refl, ((refl, refl), (refl, (refl, (refl, (refl, (refl, (refl, ((refl, refl), (refl, ((refl, refl), (refl, tt))))))))))))))); lawful = (refl, ((refl, refl), tt, tt), tt) };
      };
      known = refl;
    };
    times = refl;
    derives = record { written = (aggregate aggregation.Sum (behind true (record { labels = (codes "sum" ∷ codes "__name__" ∷ []); comma = false })) (more (select (record { metric = (Some (codes "x")); braces = (Some (record { matchers = ((record { label = codes "by"; sign = match.Equal; text = codes "on" }) ∷ []); comma = false })) }) None (record { offset = None; at = None; at_first = false })) none)); derived = record { fits = (refl, (refl, ((refl, refl), (refl, ((refl, refl), (refl, (refl, (refl, (refl, (refl, (refl, ((refl, refl), (refl, ((refl, refl), (refl, tt))))))))))))))); lawful = (refl, ((refl, refl), tt, tt), tt) }; means = refl };
  };
  low = omega arith;
}

keywords_as_labels_text : canonical keywords_as_labels_tree ≡ codes "sum without (sum, __name__) ({__name__=\"x\",by=\"on\"})"
unfolding digits without_end_zeros
keywords_as_labels_text = refl

keywords_as_labels_kind : typing keywords_as_labels_tree ≡ Ok kind.Instant
keywords_as_labels_kind = refl

-- `quantile(0.9, label_replace(up, "dst", "$1\n", "src", "(.*)"))`
abbrev quantile_of_tree : Tree
quantile_of_tree = (tree.aggregate aggregation.Quantile (record { without = false; labels = [] }) (tree.more (tree.number (pos 900000)) (tree.more (tree.call (called.Instant instant.LabelReplace) (tree.more (tree.select ((record { label = codes "__name__"; sign = match.Equal; text = codes "up" }) ∷ []) None (record { at = None; offset = (pos 0) })) (tree.more (tree.text (codes "dst")) (tree.more (tree.text ((36 ∷ 49 ∷ 10 ∷ []))) (tree.more (tree.text (codes "src")) (tree.more (tree.text (codes "(.*)")) tree.none)))))) tree.none)))

quantile_of : Parses (codes "quantile(0.9, label_replace(up, \"dst\", \"$1\\n\", \"src\", \"(.*)\"))") quantile_of_tree
unfolding encode_utf8 clamp
quantile_of = record {
  is_tree = record {
    tokens = (record { from = 0; to = 8; sort = token.word (codes "quantile") } ∷ record { from = 8; to = 9; sort = token.sign (codes "(") } ∷ record { from = 9; to = 12; sort = token.number (pos 900000) } ∷ record { from = 12; to = 13; sort = token.sign (codes ",") } ∷ record { from = 14; to = 27; sort = token.word (codes "label_replace") } ∷ record { from = 27; to = 28; sort = token.sign (codes "(") } ∷ record { from = 28; to = 30; sort = token.word (codes "up") } ∷ record { from = 30; to = 31; sort = token.sign (codes ",") } ∷ record { from = 32; to = 37; sort = token.string (codes "dst") } ∷ record { from = 37; to = 38; sort = token.sign (codes ",") } ∷ record { from = 39; to = 45; sort = token.string ((36 ∷ 49 ∷ 10 ∷ [])) } ∷ record { from = 45; to = 46; sort = token.sign (codes ",") } ∷ record { from = 47; to = 52; sort = token.string (codes "src") } ∷ record { from = 52; to = 53; sort = token.sign (codes ",") } ∷ record { from = 54; to = 60; sort = token.string (codes "(.*)") } ∷ record { from = 60; to = 61; sort = token.sign (codes ")") } ∷ record { from = 61; to = 62; sort = token.sign (codes ")") } ∷ []);
    known = record {
      written = record {
        shallow = record {
          cut = record { short = omega arith; are_tokens = are_tokens (record { begins = (refl, refl, (refl, refl, (refl, refl, (refl, refl, (refl, refl, (refl, refl, (refl, refl, (refl, refl, (refl, refl, (refl, refl, (refl, refl, (refl, refl, (refl, refl, (refl, refl, (refl, refl, (refl, refl, (refl, refl, tt))))))))))))))))); whole = refl }) };
          shallow = refl;
        };
        written = (aggregate aggregation.Quantile absent (more (number (pos 900000)) (more (call (codes "label_replace") (more (select (record { metric = (Some (codes "up")); braces = None }) None (record { offset = None; at = None; at_first = false })) (more (text (codes "dst")) (more (text ((36 ∷ 49 ∷ 10 ∷ []))) (more (text (codes "src")) (more (text (codes "(.*)")) none)))))) none)));
        derived = record { fits = (refl, (refl, (refl, (refl, ((refl, refl), (refl, ((refl, refl), (refl, (refl, (refl, (refl, (refl, (refl, (refl, (refl, (refl, (refl, tt))))))))))))))))); lawful = (tt, tt, (((tt, tt, tt), (tt, (tt, (tt, (tt, tt))))), tt)) };
      };
      known = refl;
    };
    times = refl;
    derives = record { written = (aggregate aggregation.Quantile absent (more (number (pos 900000)) (more (call (codes "label_replace") (more (select (record { metric = (Some (codes "up")); braces = None }) None (record { offset = None; at = None; at_first = false })) (more (text (codes "dst")) (more (text ((36 ∷ 49 ∷ 10 ∷ []))) (more (text (codes "src")) (more (text (codes "(.*)")) none)))))) none))); derived = record { fits = (refl, (refl, (refl, (refl, ((refl, refl), (refl, ((refl, refl), (refl, (refl, (refl, (refl, (refl, (refl, (refl, (refl, (refl, (refl, tt))))))))))))))))); lawful = (tt, tt, (((tt, tt, tt), (tt, (tt, (tt, (tt, tt))))), tt)) }; means = refl };
  };
  low = omega arith;
}

quantile_of_text : canonical quantile_of_tree ≡ codes "quantile by () (0.9, label_replace({__name__=\"up\"}, \"dst\", \"$1\\n\", \"src\", \"(.*)\"))"
unfolding digits without_end_zeros
quantile_of_text = refl

quantile_of_kind : typing quantile_of_tree ≡ Ok kind.Instant
quantile_of_kind = refl

-- `"a\u00e9\""`
abbrev string_at_root_tree : Tree
string_at_root_tree = (tree.text ((97 ∷ 195 ∷ 169 ∷ 34 ∷ [])))

string_at_root : Parses (codes "\"a\\u00e9\\\"\"") string_at_root_tree
unfolding encode_utf8 clamp
string_at_root = record {
  is_tree = record {
    tokens = (record { from = 0; to = 11; sort = token.string ((97 ∷ 195 ∷ 169 ∷ 34 ∷ [])) } ∷ []);
    known = record {
      written = record {
        shallow = record {
          cut = record { short = omega arith; are_tokens = are_tokens (record { begins = (refl, refl, tt); whole = refl }) };
          shallow = refl;
        };
        written = (text ((97 ∷ 195 ∷ 169 ∷ 34 ∷ [])));
        derived = record { fits = (refl, tt); lawful = tt };
      };
      known = refl;
    };
    times = refl;
    derives = record { written = (text ((97 ∷ 195 ∷ 169 ∷ 34 ∷ []))); derived = record { fits = (refl, tt); lawful = tt }; means = refl };
  };
  low = omega arith;
}

string_at_root_text : canonical string_at_root_tree ≡ (34 ∷ 97 ∷ 195 ∷ 169 ∷ 92 ∷ 34 ∷ 34 ∷ [])
unfolding digits without_end_zeros
string_at_root_text = refl

string_at_root_kind : typing string_at_root_tree ≡ Ok kind.Text
string_at_root_kind = refl
