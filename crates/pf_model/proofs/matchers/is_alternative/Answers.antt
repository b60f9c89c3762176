use Rattle.std.proofs.Common.{rules, lit<}
use Rattle.std.proofs.lemmas.Iterator.Search.{any_from_yields_List}
use Rattle.std.proofs.lemmas.Iterator.Splits.{YieldsList-from_str_split}
use Rattle.std.specs.Str.{bytes_eq}
use Rattle.pf_model.proofs.matchers.is_alternative.Goals as goal

-- the parts of the split are the alternatives
pub returns : goal.returns
returns c = any_from_yields_List (bytes_eq c.args.value.now) _ _ _ c.any.ensures.ran
    (YieldsList-from_str_split 124 c.args.pattern.now (lit< tt) c.split.ensures.text c.split.ensures.has_more c.split.ensures.pattern)
    (λ x b q h. search rules)
