-- What functions that cut bytes promise: this project's own.
use Rattle.std.specs.Prelude.{◌≡◌, Option, Some, None}

-- an answer is what its definition finds, seen by a view
abbrev pub Finds : {X Y : Type 0} → (X → Y) → Option X → Option Y → Type 0
Finds view None found = found ≡ None
Finds view (Some x) found = found ≡ Some (view x)
