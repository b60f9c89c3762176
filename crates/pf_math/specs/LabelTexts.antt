-- What `label_replace` and `label_join` are told, other than the vector.
use Rattle.std.specs.Prelude.{ℕ, List}

-- the label that is set, the one that is read, the pattern, and the template that is put in
pub record ReplacementData : Type 0 where
  pub target : List ℕ
  pub source : List ℕ
  pub pattern : List ℕ
  pub template : List ℕ

-- the label that is set, and the labels that are read with what stands between their values
pub record JoinData : Type 0 where
  pub target : List ℕ
  pub separator : List ℕ
  pub sources : List (List ℕ)
