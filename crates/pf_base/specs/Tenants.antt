-- Tenants' names. Grafana Mimir, About tenant IDs.
use Rattle.std.specs.Prelude.{ℕ, ◌&&◌, ◌||◌, Bool, not, List, length, nat_eq, nat_le, codes}
use Rattle.std.specs.List.{list_all, list_any}
use Rattle.std.specs.Str.{bytes_eq}

-- a letter, a digit or one of `!-_.*'()`
abbrev pub is_tenant_byte : ℕ → Bool
is_tenant_byte b =
    (nat_le 65 b && nat_le b 90) || (nat_le 97 b && nat_le b 122) || (nat_le 48 b && nat_le b 57)
    || list_any (nat_eq b) (codes "!-_.*'()")

-- 1 to 150 of these bytes, and neither `.` nor `..`
abbrev pub is_tenant : List ℕ → Bool
is_tenant name =
    nat_le 1 (length name) && nat_le (length name) 150 && list_all is_tenant_byte name
    && not (bytes_eq name (codes ".")) && not (bytes_eq name (codes ".."))
