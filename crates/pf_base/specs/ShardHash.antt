-- The shard of a label set, of n: FNV-1a with 64 bits (Fowler, Noll, Vo and Eastlake, The FNV Non-Cryptographic Hash
-- Algorithm) over its labels, modulo n. Which bytes are hashed is this project's own.
use Rattle.std.specs.Prelude.{ℕ, ◌*◌, ◌^◌, ◌%◌, List, [], ◌∷◌, ◌++◌, bit_xor}
use Rattle.pf_base.specs.LabelSets.{Pairs}
use Rattle.pf_base.specs.LabelChanges.{metric_name, others}

abbrev pub hash_step : ℕ → ℕ → ℕ
hash_step h byte = (bit_xor h byte * 1099511628211) % 2 ^ 64

abbrev pub hash_onto : ℕ → List ℕ → ℕ
hash_onto h [] = h
hash_onto h (b ∷ bs) = hash_onto (hash_step h b) bs

-- the name, 255, the value, 255
abbrev pub label_bytes : List ℕ × List ℕ → List ℕ
label_bytes p = p.0 ++ (255 ∷ (p.1 ++ (255 ∷ [])))

abbrev pub labels_onto : ℕ → Pairs → ℕ
labels_onto h [] = h
labels_onto h (p ∷ ps) = labels_onto (hash_onto h (label_bytes p)) ps

abbrev pub labels_hash : Pairs → ℕ
labels_hash = labels_onto 14695981039346656037

-- the metric name takes no part
abbrev pub shard_of : Pairs → ℕ → ℕ
shard_of ps n = labels_hash (others metric_name ps) % n
