-- How many samples of a window differ from the one before, and how many are below it.
use Rattle.std.specs.Prelude.{◌+◌, ℤ, int_lt, not, cond, List}
use Rattle.std.specs.Ordering.{int_eq}
use Rattle.pf_base.specs.declared.plain.Sample.{Sample}
use Rattle.pf_model.specs.RangeFunctions.{steps_with}
use Rattle.pf_range.specs.declared.steps.Steps.{Steps}

abbrev pub steps_of : List Sample → Steps
steps_of ss =
    record { changes = steps_with (λ v w. not (int_eq v w)) ss; resets = steps_with (λ v w. int_lt w v) ss }

-- with one step more
abbrev pub next_steps : Steps → ℤ → ℤ → Steps
next_steps s before after =
    record {
      changes = s.changes + cond (not (int_eq before after)) 1 0;
      resets = s.resets + cond (int_lt after before) 1 0;
    }
