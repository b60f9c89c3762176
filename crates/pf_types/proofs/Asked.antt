-- What is asked, from the answers of the parser and of the check of kinds.
use Rattle.std.proofs.Common.{◌≡◌, rules, Option, None, Some, Ok, Err}
use Rattle.std.specs.Option.{option_or}
use Rattle.pf_model.specs.declared.expr.Kind.{Kind}
use Rattle.pf_model.specs.Trees.{Tree, postorder}
use Rattle.pf_model.specs.Typing.{TypeFault, asked_fault, first_fault, kind_of, scalar_or_instant, typing, unless}
use Rattle.pf_types.specs.Rules.{operand_fault}

fault_unless : (x y : Option TypeFault) (k : Kind) (f : TypeFault) → Err f ≡ unless x k → Some f ≡ option_or x y
fault_unless None y k f h = search rules
fault_unless (Some g) y k f h = search rules

none_unless : (x : Option TypeFault) (y : Kind → Option TypeFault) (k j : Kind) → Ok k ≡ unless x j → y k ≡ option_or x (y j)
none_unless None y k j h = search rules
none_unless (Some g) y k j h = search rules

pub refused_kinds : (t : Tree) (f : TypeFault) → Err f ≡ typing t → Some f ≡ asked_fault t
refused_kinds t f h = fault_unless (first_fault (postorder t)) _ (kind_of t) f h

pub lawful_kinds : (t : Tree) (k : Kind) → Ok k ≡ typing t → operand_fault 0 scalar_or_instant k ≡ asked_fault t
lawful_kinds t k h = none_unless (first_fault (postorder t)) (λ j. operand_fault 0 scalar_or_instant j) k (kind_of t) h
