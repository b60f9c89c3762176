-- The functions of each element by itself, and the changes that they are.
use Rattle.std.proofs.Common.{◌≡◌, true, refl}
use Rattle.pf_model.specs.declared.functions.InstantFn.{InstantFn}
use Rattle.pf_model.specs.declared.functions.InstantFn.TheVariants as function
use Rattle.pf_math.specs.EachValue.{IsOfEachValue, is_each_value}

pub each_value_is : (f : InstantFn) → is_each_value f ≡ true → IsOfEachValue f
each_value_is function.Abs h b es = refl
each_value_is function.Ceil h b es = refl
each_value_is function.Floor h b es = refl
each_value_is function.Sgn h b es = refl
each_value_is function.Round h b es = refl
each_value_is function.Clamp h b es = refl
each_value_is function.ClampMin h b es = refl
each_value_is function.ClampMax h b es = refl
each_value_is function.Timestamp h b es = refl
each_value_is function.Absent h b es = cc
each_value_is function.Scalar h b es = cc
each_value_is function.Vector h b es = cc
each_value_is function.Time h b es = cc
each_value_is function.LabelReplace h b es = cc
each_value_is function.LabelJoin h b es = cc
