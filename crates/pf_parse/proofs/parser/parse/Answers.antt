use Rattle.pf_parse.proofs.OneTree.{answered}
use Rattle.pf_parse.proofs.parser.parse.Goals as goal

pub returns-clause-exact : goal.returns-clause-exact
returns-clause-exact c =
    answered c.args.text.now c.parse_text.result c.parse_text.ensures.parses c.parse_text.ensures.refuses
