-- What the stand-ins in memory for the outside hold, how they answer, and what the adapter of a disk counts. This project's own.
use Rattle.std.specs.Prelude.{ℕ, min, Bool, cond, ◌&&◌, List, [], ◌∷◌, Option, Some, None, is_none, is_some, nat_eq, nat_lt, map, Vec}
use Rattle.std.specs.Global.{Global}
use Rattle.std.specs.List.{list_all, list_any}
use Rattle.std.specs.Str.{bytes_eq}

-- files by name, the numbers of the calls that fail, how many calls and faults there were, and whether the last call was
-- one; the first call is 0
pub record FilesData : Type 0 where
  pub files : List (List ℕ × List ℕ)
  pub failing : List ℕ
  pub calls : ℕ
  pub faults : ℕ
  pub failed : Bool

-- how many faults of the disk there were, and whether the last call was one
pub record DiskData : Type 0 where
  pub faults : ℕ
  pub failed : Bool

-- a sink's bytes, the numbers of the calls that fail, the most bytes that it takes in one call, with 0 for no bound,
-- and how many calls and faults there were
pub record SinkData : Type 0 where
  pub bytes : List ℕ
  pub failing : List ℕ
  pub most_a_call : ℕ
  pub calls : ℕ
  pub faults : ℕ

-- the connections still to hand out, and how many were given, and how often there was none
pub record DoorsData (A : Type 0) : Type 0 where
  pub waiting : List A
  pub given : ℕ
  pub nones : ℕ

-- names and what they hold
abbrev pub contents : List (List ℕ × Vec ℕ Global) → List (List ℕ × List ℕ)
contents files = map (λ file. (file.0, file.1.items)) files

-- the bytes of the first file of this name
abbrev pub held : List (List ℕ × List ℕ) → List ℕ → Option (List ℕ)
held [] name = None
held (file ∷ files) name = cond (bytes_eq file.0 name) (Some file.1) (held files name)

-- whether the call of this number is one that fails
abbrev pub fails : List ℕ → ℕ → Bool
fails failing call = list_any (λ listed. nat_eq listed call) failing

-- no call from this one on fails
abbrev pub none_fails : List ℕ → ℕ → Bool
none_fails failing call = list_all (λ listed. nat_lt listed call) failing

-- a file of this name is there, and no call fails any more
abbrev pub is_sure : FilesData → List ℕ → Bool
is_sure f name = is_some (held f.files name) && none_fails f.failing f.calls

-- no file of this name is there
abbrev pub is_lost : List (List ℕ × List ℕ) → List ℕ → Bool
is_lost files name = is_none (held files name)

-- how many of so many bytes are taken in one call
abbrev pub takes : ℕ → ℕ → ℕ
takes most_a_call size = cond (nat_eq most_a_call 0) size (min most_a_call size)
