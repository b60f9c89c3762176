-- Queries are opened, cancelled and answered.
use Rattle.std.proofs.Common.{◌≡◌, ℕ, ◌+◌, ◌-◌, ◌<◌, ◌≤◌, inl, inr, cond, nat_eq, nat_le, false, true, Option, Some, None, List, [], ◌∷◌, ◌++◌, length, refl, sym, ap, ◌∙◌, arith, slice_get, slice_set, subst, append-nil}
use Rattle.std.proofs.lemmas.Bool.Decides.{nat_tests}
use Rattle.std.proofs.lemmas.Option.{slice_get_within}
use Rattle.std.proofs.lemmas.Slice.Eq.{bytes_eq-Decides}
use Rattle.pf_base.specs.declared.plain.By.{By}
use Rattle.pf_base.specs.declared.plain.Limits.{Limits}
use Rattle.pf_journal.specs.Asking.{Asked}
use Rattle.pf_journal.specs.Machine.{AnswersOpen, CancelsOpen, Machine, Open, What, answer, ask, cancel, cancelled_at, closed, log_of, next, open_at, open_of, room_kept}
use Rattle.pf_model.specs.Lists.{Each}
use Rattle.pf_model.specs.Log.{rules_of}
use Rattle.pf_store.specs.Standing.{IsPin, LogData, PinData}
use Rattle.pf_core.specs.Cores.{AsksAt, Enters, IsOpened, IsOthers, IsOwned}
use Rattle.pf_core.specs.Entries.{what_of}
use Rattle.pf_core.specs.Seats.{AreTenants, IsFree, IsSeat, TenantsData, count_at, counted_as, is_named, is_same, settled}
use Rattle.pf_core.specs.States.{AreWithin, IsCancelledAt, IsOpenedFor, IsOpening, HasHistory, Keeps, KeepsQueries, Steps, core_of, kept_in, machine_in, with_cancel, with_query, without_query}
use Rattle.pf_core.specs.declared.answers.Opened.{Opened}
use Rattle.pf_core.specs.declared.state.Opening.{Opening}
use Rattle.pf_core.specs.declared.state.State.{State}
use Rattle.pf_core.specs.declared.tenants.Seat.{Seat}
use Rattle.pf_core.proofs.Keeping.{are_open_answered, are_open_asked, are_open_cancelled, counts_answered, counts_asked}
use Rattle.pf_core.proofs.KeptQueries.{keeps_answered, keeps_cancelled, keeps_opened}
use Rattle.pf_core.proofs.Limited.{open_room, some_room}
use Rattle.pf_core.proofs.Lists.{get_set_other, get_set_same}
use Rattle.pf_core.proofs.Machines.{bool_cases, open_at_pushed, open_cancelled, open_closed, open_each, reserved_cancelled, reserved_closed, reserved_pushed, reserved_some}
use Rattle.pf_core.proofs.Seated.{count_there, names_of, placed, settled_count, settled_counts, settled_logs, settled_many, settled_names, settled_tenants, stored}
use Rattle.pf_core.proofs.Stepped.{behind, counted, room_for, stepped}

within_set : (limit u n : ℕ) (kept : List ℕ) → AreWithin limit kept → u < length kept → n ≤ limit → AreWithin limit (slice_set kept u n)
within_set limit u n kept h inside few v k g = elim (bool_cases (nat_eq v u)) [
  | inl t ↦
      let same : v ≡ u = grind (arith, nat_tests, t) in
      let there : slice_get (slice_set kept u n) v ≡ Some n = subst (λ x. slice_get (slice_set kept u n) x ≡ Some n) (sym same) (get_set_same kept u n inside) in
      let found : n ≡ k = cc in omega (arith, found, few)
  | inr t ↦
      let was : slice_get kept v ≡ Some k = sym (get_set_other kept u v n (λ s. grind (arith, nat_tests, t, s))) ∙ g in
      h v k was
]

-- an open query's tenant has a count
pub known_tenant : (s : State) (query : ℕ) (o : Open) → HasHistory s → AreTenants s.tenants → open_at query (machine_in s).queries ≡ Some o
    → o.tenant < length s.tenants.counts
known_tenant s query o h t found =
    let known : o.tenant < length (machine_in s).logs =
    open_each (λ x. x.tenant < length (machine_in s).logs) query (machine_in s).queries o h.keeps.are_open.known found in
    let many = h.stands.names.many in
    let counts = t.many_counts in
    omega (arith, known, many, counts)

pub counted_in : (s : State) (u n : ℕ) → n ≡ count_at s.tenants.counts u → u < length s.tenants.counts → slice_get s.tenants.counts u ≡ Some n
counted_in s u n e inside =
    let at_u = stored s.tenants.counts u inside in
    at_u.there ∙ ap (λ (k : ℕ). Some k) (sym (e ∙ count_there s.tenants.counts u at_u.element at_u.there))

-- and it is not zero
pub some_open : (s : State) (query n : ℕ) (o : Open) → HasHistory s → AreTenants s.tenants → open_at query (machine_in s).queries ≡ Some o
    → n ≡ count_at s.tenants.counts o.tenant → 0 < n
some_open s query n o h t found e =
    let count = h.keeps.keeps_counts o.tenant n (counted_in s o.tenant n e (known_tenant s query o h t found)) in
    let one = open_closed 0 query o.tenant (machine_in s).queries o h.keeps.are_open.apart found in
    let same : nat_eq o.tenant o.tenant ≡ true = grind (arith, nat_tests) in
    let more : open_of o.tenant (machine_in s).queries ≡ open_of o.tenant (closed query (machine_in s).queries) + cond true 1 0 = rw same at one in
    omega (arith, count, more)

-- an ask of a tenant that may have one query more
pub asked : (old new : State) (by : By) (name : List ℕ) (seat : Seat) (n place : ℕ) (wanted : Asked) (o : Opening) (pin : PinData)
    → HasHistory old → IsSeat old.tenants (rules_of old.limits) name seat
    → n ≡ count_at old.tenants.counts seat.number → n < old.limits.outstanding
    → IsOpening seat wanted o → IsOpenedFor old by seat n o.query (what_of o.what) new
    → place ≡ length old.journal.items → pin ≡ o.pin
    → nat_le (length old.journal.items + old.reserved + 3) old.limits.journal ≡ true
    → HasHistory new
    × (Enters (core_of old) by (ask seat.number wanted o.pin.number o.pin.generation o.pin.floor) (core_of new) × AsksAt (core_of old) by name wanted place pin (core_of new))
asked old new by name seat n place wanted o pin h p counted_so below opening e at_end same_pin room =
    let m = machine_in old in
    let u = seat.number in
    let w = rules_of old.limits in
    let here = placed old name seat h p in
    let log = log_of m.logs u in
    let what = ask u wanted o.pin.number o.pin.generation o.pin.floor in
    let opened : Open = record { place = m.count; tenant = u; asked = wanted; log = log; cancelled = None } in
    let front = settled old.tenants u seat.log seat.newcomer in
    let t = counted_as front u (n + 1) in
    let c = counted old in
    let many = h.stands.names.many in
    let near = here.number.next in
    let kept_pin = opening.kept w log here.is in
    let told_pin = opening.pinned w log here.is in
    let counts = settled_counts old.tenants u seat.log seat.newcomer m old.limits.journal p.tenants many h.keeps.keeps_counts h.keeps.within h.keeps.are_open.known in
    let there : slice_get front.counts u ≡ Some n =
    settled_count old.tenants u seat.log seat.newcomer p.tenants p.free ∙ ap (λ (k : ℕ). Some k) (sym counted_so) in
    let inside : u < length front.counts = slice_get_within front.counts u n there in
    let so_many = counts.0 u n there in
    let kept_room = h.keeps.keeps_room in
    let open_fits = open_room u m.queries in
    let more_room = reserved_pushed m.queries opened in
    let fits : length old.journal.items + old.reserved + 3 ≤ old.limits.journal = grind (arith, nat_tests, room) in
    let queries : KeepsQueries w (with_query (kept_in old) (length old.journal.items) o.query) (m.queries ++ opened ∷ []) =
    keeps_opened w (length old.journal.items) (kept_in old) m.queries o.query opened h.keeps.keeps_queries
    (subst (λ k. Each (λ q. q.place < k) m.queries) c h.keeps.are_open.below)
    (record { tenant = sym opening.tenant; asked = sym opening.asked; pinned = kept_pin; cancelled = sym opening.uncancelled })
    c in
    let keeps : Keeps old.limits t (with_query (kept_in old) (length old.journal.items) o.query) (old.reserved + 2) (next m what) = record {
      keeps_logs = settled_logs w old.tenants u seat.log seat.newcomer m.logs log p.tenants p.free many h.keeps.keeps_logs here.is;
      keeps_counts = counts_asked front.counts m.queries opened n counts.0 there inside;
      within = within_set old.limits.journal u (n + 1) front.counts counts.1 inside (omega (arith, so_many, open_fits, kept_room, fits));
      keeps_queries = queries;
      keeps_room = omega (arith, kept_room, more_room);
      are_open = are_open_asked m opened log near refl h.keeps.are_open;
    } in
    let s : Steps old by what t (with_query (kept_in old) (length old.journal.items) o.query) (old.reserved + 2) new =
    subst (λ (x : What). IsOpenedFor old by seat n o.query x new) opening.what e in
    let both = stepped old new by what t _ _ (names_of seat.newcomer) h s
    (settled_names old.tenants u seat.log seat.newcomer)
    (settled_many old.tenants u seat.log seat.newcomer m.logs log p.free many)
    (settled_tenants old.tenants u seat.log seat.newcomer p.tenants p.free).apart
    (record { tenant = here.number; below = omega (arith, below, so_many); pinned = told_pin.numbered; aged = told_pin.aged; floored = told_pin.floored })
    keeps (omega (arith, fits)) in
    let after : machine_in new ≡ next m what = behind old new by what s.journal in (
      both.0,
      (
        both.1,
        subst (λ (x : PinData). AsksAt (core_of old) by name wanted place x (core_of new)) (sym same_pin) (record {
          room = room_for old 3 h room;
          entered = record {
            number = u;
            named = subst (λ (x : TenantsData). slice_get x.names u ≡ Some name) (sym s.tenants) (here.named seat.log);
            entered = both.1;
          };
          here = omega (arith, at_end, c);
          opened = opened;
          is_open = subst (λ (x : Machine). open_at place x.queries ≡ Some opened) (sym after)
              (subst (λ k. open_at k (m.queries ++ opened ∷ []) ≡ Some opened) (c ∙ sym at_end)
              (open_at_pushed m.queries m.count opened h.keeps.are_open.below refl));
          owner = refl;
          asked = refl;
          pinned = subst (λ (l : Limits). IsPin o.pin (rules_of l) log) (sym s.limits) told_pin;
          uncancelled = refl;
        }),
      ),
    )

-- a cancel of an open query, which was not cancelled
pub cancelled : (old new : State) (by : By) (query : ℕ) (o : Open)
    → HasHistory old → open_at query (machine_in old).queries ≡ Some o → o.cancelled ≡ None
    → IsCancelledAt old by query new → HasHistory new × Enters (core_of old) by (cancel query) (core_of new)
cancelled old new by query o h found whole s =
    let m = machine_in old in
    let c = counted old in
    let kept_room = h.keeps.keeps_room in
    let fits = h.fits in
    let less = reserved_cancelled m.count query m.queries o found whole in
    let queries : KeepsQueries (rules_of old.limits) (with_cancel (kept_in old) query (length old.journal.items)) (cancelled_at m.count query m.queries) =
    subst (λ k. KeepsQueries (rules_of old.limits) (with_cancel (kept_in old) query k) (cancelled_at m.count query m.queries)) c
    (keeps_cancelled (rules_of old.limits) query m.count (kept_in old) m.queries o h.keeps.keeps_queries found) in
    stepped old new by (cancel query) old.tenants _ _ [] h s (sym (append-nil old.tenants.names)) h.stands.names.many h.stands.names.different
    (subst CancelsOpen (sym found) whole)
    (record {
      keeps_logs = h.keeps.keeps_logs;
      keeps_counts = λ u k g. h.keeps.keeps_counts u k g ∙ sym (open_cancelled u m.count query m.queries);
      within = h.keeps.within;
      keeps_queries = queries;
      keeps_room = omega (arith, kept_room, less);
      are_open = are_open_cancelled m m.count query h.keeps.are_open;
    })
    (omega (arith, fits, kept_room, less))

-- an answer to an open query, whose tenant has so many
pub answered : (old new : State) (by : By) (query code cached evaluated n : ℕ) (o : Open)
    → HasHistory old → AreTenants old.tenants → open_at query (machine_in old).queries ≡ Some o
    → n ≡ count_at old.tenants.counts o.tenant
    → AnswersOpen old.limits (open_at query (machine_in old).queries) code cached evaluated
    → Steps old by (answer query code cached evaluated) (counted_as old.tenants o.tenant (n - 1)) (without_query (kept_in old) query)
    (old.reserved - room_kept o.cancelled) new
    → HasHistory new × Enters (core_of old) by (answer query code cached evaluated) (core_of new)
answered old new by query code cached evaluated n o h t found counted_so right s =
    let m = machine_in old in
    let kept_room = h.keeps.keeps_room in
    let fits = h.fits in
    let less = reserved_closed 0 query m.queries o h.keeps.are_open.apart found in
    let some = some_room o.cancelled in
    let there = counted_in old o.tenant n counted_so (known_tenant old query o h t found) in
    let inside = known_tenant old query o h t found in
    let few = h.keeps.within o.tenant n there in
    stepped old new by (answer query code cached evaluated) (counted_as old.tenants o.tenant (n - 1)) _ _ [] h s
    (sym (append-nil old.tenants.names)) h.stands.names.many h.stands.names.different right
    (record {
      keeps_logs = h.keeps.keeps_logs;
      keeps_counts = counts_answered old.tenants.counts m.queries query n o h.keeps.keeps_counts h.keeps.are_open.apart found there inside;
      within = within_set old.limits.journal o.tenant (n - 1) old.tenants.counts h.keeps.within inside (omega (arith, few));
      keeps_queries = keeps_answered (rules_of old.limits) query (kept_in old) m.queries h.keeps.keeps_queries;
      keeps_room = omega (arith, kept_room, less);
      are_open = are_open_answered m query h.keeps.are_open;
    })
    (omega (arith, fits, kept_room, less, some))

-- an open query that may be cancelled
pub record Cancellable (found : Option Open) : Type 0 where
  pub opened : Open
  pub there : found ≡ Some opened
  pub whole : opened.cancelled ≡ None

pub cancellable : (found : Option Open) → CancelsOpen found → Cancellable found
cancellable None h = absurd h
cancellable (Some o) h = record { opened = o; there = refl; whole = h }

-- it keeps room for two entries
pub cancel_room : (s : State) (query : ℕ) → HasHistory s → CancelsOpen (open_at query (machine_in s).queries) → 2 ≤ s.reserved
cancel_room s query h may =
    let found = cancellable (open_at query (machine_in s).queries) may in
    let some = reserved_some query (machine_in s).queries found.opened found.there in
    let two : room_kept found.opened.cancelled ≡ 2 = ap room_kept found.whole in
    let room = h.keeps.keeps_room in
    omega (arith, some, two, room)

pub cancel_state : (old new : State) (by : By) (query : ℕ)
    → HasHistory old → CancelsOpen (open_at query (machine_in old).queries) → IsCancelledAt old by query new → HasHistory new
cancel_state old new by query h may s =
    let found = cancellable (open_at query (machine_in old).queries) may in
    (cancelled old new by query found.opened h found.there found.whole s).0

pub cancel_enters : (old new : State) (by : By) (query : ℕ)
    → HasHistory old → CancelsOpen (open_at query (machine_in old).queries) → IsCancelledAt old by query new
    → Enters (core_of old) by (cancel query) (core_of new)
cancel_enters old new by query h may s =
    let found = cancellable (open_at query (machine_in old).queries) may in
    (cancelled old new by query found.opened h found.there found.whole s).1

-- ---- what is told of an open query

pub answer_inside : (s : State) (query : ℕ) (o : Opened) → HasHistory s → AreTenants s.tenants → IsOpened (core_of s) query o
    → o.tenant < length s.tenants.counts
answer_inside s query o h t is =
    let inside = known_tenant s query is.opened h t is.is_open in
    let same = is.tenant in
    omega (arith, inside, same)

pub answer_some : (s : State) (query n : ℕ) (o : Opened) → HasHistory s → AreTenants s.tenants → IsOpened (core_of s) query o
    → n ≡ count_at s.tenants.counts o.tenant → 1 ≤ n
answer_some s query n o h t is e =
    let some = some_open s query n is.opened h t is.is_open (e ∙ ap (count_at s.tenants.counts) (sym is.tenant)) in
    omega (arith, some)

pub answer_room : (s : State) (query n : ℕ) (o : Opened) → HasHistory s → IsOpened (core_of s) query o
    → n ≡ room_kept o.cancelled → (1 ≤ n) × (n ≤ s.reserved)
answer_room s query n o h is e =
    let kept = reserved_some query (machine_in s).queries is.opened is.is_open in
    let same : n ≡ room_kept is.opened.cancelled = e ∙ ap room_kept (sym is.cancelled) in
    let some = some_room is.opened.cancelled in
    let room = h.keeps.keeps_room in
    (omega (arith, some, same), omega (arith, kept, same, room))

pub answer_entered : (old new : State) (by : By) (query code cached evaluated n kept : ℕ) (o : Opened)
    → HasHistory old → AreTenants old.tenants → IsOpened (core_of old) query o
    → n ≡ count_at old.tenants.counts o.tenant → kept ≡ room_kept o.cancelled
    → AnswersOpen old.limits (open_at query (machine_in old).queries) code cached evaluated
    → Steps old by (answer query code cached evaluated) (counted_as old.tenants o.tenant (n - 1)) (without_query (kept_in old) query) (old.reserved - kept) new
    → HasHistory new × Enters (core_of old) by (answer query code cached evaluated) (core_of new)
answer_entered old new by query code cached evaluated n kept o h t is e k right s =
    answered old new by query code cached evaluated n is.opened h t is.is_open (e ∙ ap (count_at old.tenants.counts) (sym is.tenant)) right
    (subst (λ u. Steps old by (answer query code cached evaluated) (counted_as old.tenants u (n - 1)) (without_query (kept_in old) query)
    (old.reserved - room_kept is.opened.cancelled) new) (sym is.tenant)
    (subst (λ r. Steps old by (answer query code cached evaluated) (counted_as old.tenants o.tenant (n - 1)) (without_query (kept_in old) query) (old.reserved - r) new)
    (k ∙ ap room_kept (sym is.cancelled)) s))

-- the count of a seat that was put in
pub settled_inside : (t new : TenantsData) (u : ℕ) (log : LogData) (newcomer : Option (List ℕ))
    → AreTenants t → IsFree t u newcomer → new ≡ settled t u log newcomer → u < length new.counts
settled_inside t new u log newcomer h f e =
    let there = settled_count t u log newcomer h f in
    subst (λ (x : TenantsData). u < length x.counts) (sym e) (slice_get_within (settled t u log newcomer).counts u _ there)

-- ---- whose query it is

pub may_cancel : (s : State) (query : ℕ) (o : Opened) → IsOpened (core_of s) query o → o.cancelled ≡ None → CancelsOpen (open_at query (machine_in s).queries)
may_cancel s query o is e = subst CancelsOpen (sym is.is_open) (is.cancelled ∙ e)

same_name : (name : List ℕ) (found : Option (List ℕ)) → is_same name found ≡ true → found ≡ Some name
same_name name None t = cc
same_name name (Some known) t = ap (λ (n : List ℕ). Some n) ((bytes_eq-Decides known name).0 t)

pub owned : (s : State) (query : ℕ) (o : Opened) (name : List ℕ) (cancelled : Option ℕ)
    → IsOpened (core_of s) query o → is_named s.tenants.names o.tenant name ≡ true → o.cancelled ≡ cancelled → IsOwned (core_of s) query name cancelled
owned s query o name cancelled is t e = record {
  opened = is.opened;
  is_open = is.is_open;
  named = subst (λ u. slice_get s.tenants.names u ≡ Some name) (sym is.tenant) (same_name name (slice_get s.tenants.names o.tenant) t);
  cancelled_at = is.cancelled ∙ e;
}

pub others : (s : State) (query : ℕ) (o : Opened) (name : List ℕ)
    → HasHistory s → IsOpened (core_of s) query o → is_named s.tenants.names o.tenant name ≡ false → IsOthers (core_of s) query name o.tenant
others s query o name h is t =
    let known : is.opened.tenant < length (machine_in s).logs =
    open_each (λ x. x.tenant < length (machine_in s).logs) query (machine_in s).queries is.opened h.keeps.are_open.known is.is_open in
    let many = h.stands.names.many in
    let same = is.tenant in
    let there = stored s.tenants.names o.tenant (omega (arith, known, many, same)) in
    record {
      opened = is.opened;
      is_open = is.is_open;
      owned = is.tenant;
      name = there.element;
      named = there.there;
      other = λ e.
          let yes : is_named s.tenants.names o.tenant name ≡ true =
          ap (is_same name) there.there ∙ (bytes_eq-Decides there.element name).1 e in
          different (sym yes ∙ t);
    } where
      different : true ≡ false → ⊥
      different e = cc
