-- Which query an entry of the journal asked: this project's own.
use Rattle.std.specs.Prelude.{ℕ, Option, None, Some, cond, List, [], ◌∷◌, nat_eq}
use Rattle.pf_journal.specs.Machine.{Entry, Machine, Open, What, append, delete, ask, full, no_tenant, cancel, answer, log_of, next, started}

-- what an entry asks, over its tenant's log before it
abbrev pub asked_by : Machine → What → Option Open
asked_by m (append u batch vs entry) = None
asked_by m (delete u ms from to generation entry) = None
asked_by m (ask u asked pin generation floor) =
    Some (record { place = m.count; tenant = u; asked = asked; log = log_of m.logs u; cancelled = None })
asked_by m (full u outstanding) = None
asked_by m (no_tenant name) = None
asked_by m (cancel query) = None
asked_by m (answer query code cached evaluated) = None

abbrev pub opened_from : Machine → List Entry → ℕ → Option Open
opened_from m [] place = None
opened_from m (e ∷ es) place = cond (nat_eq m.count place) (asked_by m e.what) (opened_from (next m e.what) es place)

-- the query that the entry at a place asked, as it was opened
abbrev pub opened_at : List Entry → ℕ → Option Open
opened_at journal place = opened_from started journal place

-- an open query as it was opened
abbrev pub as_opened : Open → Open
as_opened o = record { place = o.place; tenant = o.tenant; asked = o.asked; log = o.log; cancelled = None }
