-- What is kept under keys, the key used last first. This project's own.
use Rattle.std.specs.Prelude.{Bool, ◌&&◌, Option, Some, None, [], nat_eq, unwrap_or}
use Rattle.std.specs.Cmp.Lexicographic.{pointwise}
use Rattle.std.specs.Coded.{Coded}
use Rattle.std.specs.Map.{lookup}
use Rattle.lru.specs.LruCache.{LruCache, lru_cache, lru_cache_code, promoted, put_entries}
use Rattle.pf_extent.specs.Steps.{Extents}
use Rattle.pf_extent.specs.contracts.key.Key as key
use Rattle.pf_extent.specs.contracts.list.List as list
use Rattle.pf_extent.specs.declared.key.Key.{Key}

abbrev pub results_code : Coded (LruCache Key Extents)
results_code = lru_cache_code key.the_row.coded list.the_row.coded

-- keys are equal where all their parts are
abbrev pub is_key : Key → Key → Bool
is_key x y = nat_eq x.tenant y.tenant && (pointwise nat_eq x.text y.text && (nat_eq x.step y.step && nat_eq x.interval y.interval))

-- the extents of a key, none where nothing is kept under it
abbrev pub kept_under : Key → LruCache Key Extents → Extents
kept_under k c = unwrap_or (lookup (is_key k) c.entries) []

-- a key is the one used last
abbrev pub touched : Key → LruCache Key Extents → LruCache Key Extents
touched k c = lru_cache (promoted (is_key k) c.entries) c.cap

-- this is kept under a key, where it is given
abbrev pub put_under : Key → Option Extents → LruCache Key Extents → LruCache Key Extents
put_under k None c = c
put_under k (Some es) c = lru_cache (put_entries is_key c k es) c.cap
