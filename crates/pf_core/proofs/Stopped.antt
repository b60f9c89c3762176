-- Answers to queries that are stopped.
use Rattle.std.proofs.Common.{◌≡◌, ℕ, Option, Some, refl, sym, ap, ◌∙◌, arith}
use Rattle.pf_query.specs.declared.stop.Stop.{Stop}
use Rattle.pf_query.specs.declared.stop.Stop.TheVariants.{Cancelled, Exhausted, Starved}
use Rattle.pf_core.specs.Calls.{IsAnswerable, IsOpenWith}
use Rattle.pf_core.specs.Cores.{CoreData, IsOpened}
use Rattle.pf_core.specs.Progress.{cancel_in}
use Rattle.pf_core.specs.declared.answers.Opened.{Opened}

-- what is told of a query that is stopped, or isn't
pub looked : (c : CoreData) (query : ℕ) (o : Opened) (stop : Option Stop) → IsOpened c query o → o.stop ≡ stop → IsOpenWith c query stop
looked c query o stop h e = record {
  opened = h.opened;
  is_open = h.is_open;
  cancelled_at = sym h.by_cancel ∙ ap cancel_in e;
  far = h.far;
  is_far = h.is_far;
  stop_is = h.stop ∙ e;
}

-- a query that was cancelled
pub after_cancel : (c : CoreData) (query : ℕ) (o : Opened) (place : ℕ) → IsOpened c query o → o.stop ≡ Some (Cancelled place) → IsAnswerable c query 503
after_cancel c query o place h e = record { stop = Some (Cancelled place); opened = looked c query o (Some (Cancelled place)) h e; coded = refl; offered = λ t. absurd (omega (arith, t)) }

-- one of whose jobs failed five times
pub after_failure : (c : CoreData) (query : ℕ) (o : Opened) (job : ℕ) → IsOpened c query o → o.stop ≡ Some (Exhausted job) → IsAnswerable c query 500
after_failure c query o job h e = record { stop = Some (Exhausted job); opened = looked c query o (Some (Exhausted job)) h e; coded = refl; offered = λ t. absurd (omega (arith, t)) }

-- and that wanted memory
pub after_want : (c : CoreData) (query : ℕ) (o : Opened) → IsOpened c query o → o.stop ≡ Some Starved → IsAnswerable c query 507
after_want c query o h e = record { stop = Some Starved; opened = looked c query o (Some Starved) h e; coded = refl; offered = λ t. absurd (omega (arith, t)) }
