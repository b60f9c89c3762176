-- The hash of a label, part by part.
use Rattle.std.proofs.Common.{◌≡◌, ℕ, List, [], ◌∷◌, ◌++◌, refl, ◌∙◌}
use Rattle.pf_base.specs.ShardHash.{hash_step, hash_onto, label_bytes}

hash_onto-append : (h : ℕ) (xs ys : List ℕ) → hash_onto h (xs ++ ys) ≡ hash_onto (hash_onto h xs) ys
hash_onto-append h [] ys = refl
hash_onto-append h (x ∷ xs) ys = hash_onto-append (hash_step h x) xs ys

pub label_steps : (h : ℕ) (name value : List ℕ) → hash_onto h (label_bytes (name, value)) ≡ hash_step (hash_onto (hash_step (hash_onto h name) 255) value) 255
label_steps h name value =
    hash_onto-append h name (255 ∷ (value ++ (255 ∷ []))) ∙ hash_onto-append (hash_step (hash_onto h name) 255) value (255 ∷ [])
