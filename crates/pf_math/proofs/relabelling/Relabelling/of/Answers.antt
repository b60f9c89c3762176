use Rattle.pf_math.proofs.EachLabels.{each_labels_is}
use Rattle.pf_math.proofs.relabelling.Relabelling.of.Goals as goal

pub returns-in-LabelReplace-Some-clause-law : goal.returns-in-LabelReplace-Some-clause-law
returns-in-LabelReplace-Some-clause-law c h b es = each_labels_is c.args.f h b es

pub returns-in-LabelJoin-default-clause-law : goal.returns-in-LabelJoin-default-clause-law
returns-in-LabelJoin-default-clause-law c h b es = each_labels_is c.args.f h b es

pub returns-in_default-clause-law : goal.returns-in_default-clause-law
returns-in_default-clause-law c h b es = each_labels_is c.args.f h b es
