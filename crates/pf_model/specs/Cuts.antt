-- Bytes that are cut in two, and steps that may fail.
use Rattle.std.specs.Prelude.{ℕ, Bool, Option, Some, None, option_and_then, cond, List}

infixl 10 ◌>>=◌
abbrev pub ◌>>=◌ : {A B : Type 0} → Option A → (A → Option B) → Option B
o >>= f = option_and_then f o

-- a value, if a test holds
abbrev pub only_if : {A : Type 0} → Bool → A → Option A
only_if b x = cond b (Some x) None

-- bytes that are cut in two
pub record Cut : Type 0 where
  pub front : List ℕ
  pub behind : List ℕ
