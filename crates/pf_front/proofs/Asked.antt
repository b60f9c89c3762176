-- What `look` tells of an open query.
use Rattle.std.proofs.Common.{◌≡◌, ℕ, true, Option, Some, sym, ◌∙◌, subst}
use Rattle.pf_core.specs.Calls.{IsOpenWith, IsPlannedBefore}
use Rattle.pf_core.specs.Cores.{CoreData, IsOpened}
use Rattle.pf_core.specs.declared.answers.Opened.{Opened}
use Rattle.pf_query.specs.declared.stop.Stop.{Stop}

open_with : (c : CoreData) (query : ℕ) (o : Opened) → IsOpened c query o → IsOpenWith c query o.stop
open_with c query o is = record {
  opened = is.opened;
  is_open = is.is_open;
  cancelled_at = sym is.by_cancel;
  far = is.far;
  is_far = is.is_far;
  stop_is = is.stop;
}

pub before : (c : CoreData) (query : ℕ) (o : Opened) → IsOpened c query o → o.planned ≡ true → IsPlannedBefore c query
unfolding open_with
before c query o is p = record { stop = o.stop; opened = open_with c query o is; was_planned = is.planned ∙ p }

pub stopped_for : (c : CoreData) (query : ℕ) (o : Opened) (why : Stop) → IsOpened c query o → o.stop ≡ Some why → IsOpenWith c query (Some why)
stopped_for c query o why is e = subst (λ (s : Option Stop). IsOpenWith c query s) e (open_with c query o is)
