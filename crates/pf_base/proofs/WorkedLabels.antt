-- Worked examples of the definitions.
use Rattle.std.proofs.Common.{◌≡◌, [], ◌∷◌, refl, Ok, Err}
use Rattle.std.specs.Prelude.{codes}
use Rattle.pf_base.specs.LabelBuild.{build_of}
use Rattle.pf_base.specs.LabelChanges.{with_value}
use Rattle.pf_base.specs.ShardHash.{shard_of}
use Rattle.pf_base.specs.declared.labels.LabelsError.TheVariants.{BadName, Repeated}

-- sorted by name, without the one of no value
built : build_of ((codes "job", codes "api") ∷ (codes "zone", []) ∷ (codes "__name__", codes "up") ∷ []) ≡ Ok ((codes "__name__", codes "up") ∷ (codes "job", codes "api") ∷ [])
built = refl

-- a bad name comes before a repeated one, and both count where the value is empty
bad : build_of ((codes "b", codes "1") ∷ (codes "b", codes "2") ∷ (codes "0", []) ∷ []) ≡ Err (BadName (codes "0"))
bad = refl

repeated : build_of ((codes "b", codes "1") ∷ (codes "c", codes "1") ∷ (codes "c", []) ∷ (codes "b", []) ∷ []) ≡ Err (Repeated (codes "b"))
repeated = refl

replaced : with_value (codes "b") (codes "2") ((codes "a", codes "1") ∷ (codes "b", codes "1") ∷ (codes "c", codes "1") ∷ []) ≡ (codes "a", codes "1") ∷ (codes "b", codes "2") ∷ (codes "c", codes "1") ∷ []
replaced = refl

removed : with_value (codes "b") [] ((codes "a", codes "1") ∷ (codes "b", codes "1") ∷ []) ≡ (codes "a", codes "1") ∷ []
removed = refl

-- the number modulo 2 is the exclusive or of 1 and the last bits of all bytes
shard_a : shard_of ((codes "s", codes "a") ∷ []) 2 ≡ 1
shard_a = refl

shard_b : shard_of ((codes "__name__", codes "up") ∷ (codes "s", codes "b") ∷ []) 2 ≡ 0
shard_b = refl

shard_c : shard_of ((codes "s", codes "c") ∷ []) 2 ≡ 1
shard_c = refl
