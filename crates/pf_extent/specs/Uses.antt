-- When the cells of an extent may be used: this project's own. Cortex and Mimir do not cache very recent results either.
use Rattle.std.specs.Prelude.{ℤ, Bool, Option}
use Rattle.pf_model.specs.Reach.{may_be_used}
use Rattle.pf_extent.specs.declared.extent.Extent.{Extent}
use Rattle.pf_extent.specs.declared.extent.Asker.{Asker}

-- at a step where the query reads nothing later than the reach
abbrev pub is_usable : Extent → Option ℤ → Asker → Bool
is_usable e reach asker = may_be_used e.pin e.generation asker.pin asker.generation asker.floor reach
