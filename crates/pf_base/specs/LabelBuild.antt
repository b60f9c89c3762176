-- Which pairs make a label set. Prometheus, Data model: Metric names and labels; that a label with an empty value is as
-- one that is not there is said there too. The limit of 64 is this project's own.
use Rattle.std.specs.Prelude.{ℕ, Bool, List, [], ◌∷◌, cond, length, filter, find, count_by, nat_lt, option_map, ◌≡◌}
use Rattle.std.specs.Prelude.{Option, Some, None, Result, Ok, Err}
use Rattle.std.specs.Str.{bytes_eq}
use Rattle.pf_base.specs.LabelSets.{Pairs, is_label_name, has_value}
use Rattle.pf_base.specs.LabelOrder.{pair_cmp}
use Rattle.pf_base.specs.Sorting.{isort}
use Rattle.pf_base.specs.declared.labels.LabelsError.{LabelsError}
use Rattle.pf_base.specs.declared.labels.LabelsError.TheVariants.{BadName, Repeated, TooMany, OutOfMemory}

-- the first name that is no label name
abbrev pub bad_name : Pairs → Option (List ℕ)
bad_name [] = None
bad_name (p ∷ ps) = cond (is_label_name p.0) (bad_name ps) (Some p.0)

-- more than one of the pairs has this one's name
abbrev pub stands_twice : Pairs → List ℕ × List ℕ → Bool
stands_twice ps p = nat_lt 1 (count_by (λ q. bytes_eq q.0 p.0) ps)

-- the least such name
abbrev pub least_repeated : Pairs → Option (List ℕ)
least_repeated ps = option_map (λ p. p.0) (find (stands_twice ps) (isort pair_cmp ps))

-- refused for this name, if there is one
abbrev pub refused : (List ℕ → LabelsError) → Option (List ℕ) → Result Pairs LabelsError → Result Pairs LabelsError
refused error None rest = rest
refused error (Some name) rest = Err (error name)

abbrev pub limited : Pairs → Result Pairs LabelsError
limited ps = cond (nat_lt 64 (length ps)) (Err TooMany) (Ok ps)

-- the label set of these pairs, those that have a value in order, or the first refusal
abbrev pub build_of : Pairs → Result Pairs LabelsError
build_of ps =
    refused BadName (bad_name ps) (refused Repeated (least_repeated ps) (limited (filter has_value (isort pair_cmp ps))))

-- an answer is this one, but for want of memory
abbrev pub Answers : Result Pairs LabelsError → Result Pairs LabelsError → Type 0
Answers wanted (Ok ps) = wanted ≡ Ok ps
Answers wanted (Err (BadName name)) = wanted ≡ Err (BadName name)
Answers wanted (Err (Repeated name)) = wanted ≡ Err (Repeated name)
Answers wanted (Err TooMany) = wanted ≡ Err TooMany
Answers wanted (Err OutOfMemory) = Unit {0}
