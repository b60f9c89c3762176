-- Texts of bytes.
use Rattle.std.proofs.Common.{◌≡◌, Some, None, List, ℕ, refl}
use Rattle.std.proofs.lemmas.Bool.{false_from_ne_true}
use Rattle.std.proofs.lemmas.Str.{IsUtf8-from_is_utf8, is_utf8-from_IsUtf8}
use Rattle.std.specs.Str.{IsUtf8, is_utf8}
use Rattle.pf_expo.specs.Scans.{kept}

pub kept_text : {A : Type 0} (bytes : List ℕ) (x : A) → IsUtf8 bytes → kept (is_utf8 bytes) x ≡ Some x
kept_text bytes x u = rw (is_utf8-from_IsUtf8 bytes u) refl

pub no_text : {A : Type 0} (bytes : List ℕ) (x : A) → (IsUtf8 bytes → ⊥) → kept (is_utf8 bytes) x ≡ None
no_text bytes x u = rw (false_from_ne_true _ (λ h. u (IsUtf8-from_is_utf8 bytes h))) refl
