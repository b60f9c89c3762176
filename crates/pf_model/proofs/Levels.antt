-- The levels of operators.
use Rattle.std.proofs.Common.{◌≤◌, arith}
use Rattle.pf_model.specs.declared.functions.Sign.{Sign}
use Rattle.pf_model.specs.declared.functions.Sign.TheVariants as operator
use Rattle.pf_model.specs.Words.{level_of}

pub level_positive : (s : Sign) → 2 ≤ level_of s
level_positive operator.Add = omega arith
level_positive operator.Sub = omega arith
level_positive operator.Mul = omega arith
level_positive operator.Div = omega arith
level_positive operator.Rem = omega arith
level_positive operator.Equal = omega arith
level_positive operator.NotEqual = omega arith
level_positive operator.Less = omega arith
level_positive operator.LessOrEqual = omega arith
level_positive operator.Greater = omega arith
level_positive operator.GreaterOrEqual = omega arith
level_positive operator.And = omega arith
level_positive operator.Or = omega arith
level_positive operator.Unless = omega arith

pub level_small : (s : Sign) → level_of s ≤ 6
level_small operator.Add = omega arith
level_small operator.Sub = omega arith
level_small operator.Mul = omega arith
level_small operator.Div = omega arith
level_small operator.Rem = omega arith
level_small operator.Equal = omega arith
level_small operator.NotEqual = omega arith
level_small operator.Less = omega arith
level_small operator.LessOrEqual = omega arith
level_small operator.Greater = omega arith
level_small operator.GreaterOrEqual = omega arith
level_small operator.And = omega arith
level_small operator.Or = omega arith
level_small operator.Unless = omega arith
