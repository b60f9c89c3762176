-- What is kept of evaluated cells of an open query, and whether it is offered by that.
use Rattle.std.proofs.Common.{◌≡◌, ℕ, ◌+◌, ◌*◌, ◌<◌, Bool, true, false, cond, Option, Some, None, List, [], map, length, refl, sym, ap, ◌∙◌, arith, subst, slice_get, take}
use Rattle.std.specs.Arc.{arc_value}
use Rattle.std.specs.Option.{option_map}
use Rattle.std.specs.Prelude.{IfSome, MatchOption, pos, slice_index_or, ◌&&◌}
use Rattle.pf_base.specs.declared.plain.Limits.{Limits}
use Rattle.pf_extent.specs.declared.done.DoneCells.{DoneCells}
use Rattle.pf_extent.specs.declared.extent.Asker.{Asker}
use Rattle.pf_extent.specs.declared.key.Key.{Key}
use Rattle.pf_journal.specs.Asking.{Asked}
use Rattle.pf_journal.specs.Machine.{Open, log_of, open_at}
use Rattle.pf_model.specs.Canonical.{canonical}
use Rattle.pf_model.specs.Evaluation.{eval}
use Rattle.pf_model.specs.Lists.{Each}
use Rattle.pf_model.specs.Log.{Change, Rules, rules_of, store_of}
use Rattle.pf_model.specs.Trees.{Tree}
use Rattle.pf_model.specs.declared.cell.StepCell.TheVariants.{Good}
use Rattle.pf_print.specs.OwnTexts.{HasText}
use Rattle.pf_query.specs.Covers.{covers, is_covered_by}
use Rattle.pf_query.specs.Entries.{is_planned}
use Rattle.pf_query.specs.Tables as table
use Rattle.pf_query.specs.Tables.{EntryData, IsSameTable, IsTable, Offers, entry_in, is_covered_in, tried_of}
use Rattle.pf_query.specs.Works as works
use Rattle.pf_query.specs.Works.{WorkData}
use Rattle.pf_query.specs.declared.stop.Stop.{Stop}
use Rattle.pf_query.specs.declared.job.Job.{Job}
use Rattle.pf_results.specs.Pieces.{AreEvaluated, IsDoneAt, fixed_over, kept_over, key_of}
use Rattle.pf_results.specs.Truth.{AreTrue, IsAsker, IsEvaluated, Logs}
use Rattle.pf_store.specs.Standing.{IsLog, LogData}
use Rattle.pf_core.specs.Cached.{KeptData, asker_of, fixed_by, kept_by}
use Rattle.pf_core.specs.Calls.{AreCellsOf, IsKeepable, IsKeptOf, KeepsCells, generation_of, is_offered_by}
use Rattle.pf_core.specs.Cores.{CoreData}
use Rattle.pf_core.specs.Divisions.{IsOfferedIf, asker_by, key_by}
use Rattle.pf_core.specs.Entries.{entry_of}
use Rattle.pf_core.specs.Jobs.{by_tenant}
use Rattle.pf_core.specs.Progress as progress
use Rattle.pf_core.specs.Progress.{GoesWithPlan, QueryProgress, progress_at, with_progress}
use Rattle.pf_core.specs.Seats.{AreTenants}
use Rattle.pf_core.specs.States.{IsQuery, IsSameButCache, IsState, IsWorkOf, JobStands, KeepsFailures, KeepsHistory, core_of, far_of, kept_in, machine_in, runs_of}
use Rattle.pf_core.specs.declared.answers.Kept.{Kept}
use Rattle.pf_core.specs.declared.query.Query.{Query}
use Rattle.pf_core.specs.declared.state.State.{State}
use Rattle.pf_core.proofs.Calling.{ask_of, covered_beside, history_same, progress_set}
use Rattle.pf_core.proofs.Divided.{asker_same, key_is}
use Rattle.pf_core.proofs.KeptQueries.{kept_is}
use Rattle.pf_core.proofs.Lists.{each_map}
use Rattle.pf_core.proofs.Logs.{asker_stands, front_of, front_taken}
use Rattle.pf_core.proofs.Machines.{open_each}
use Rattle.pf_core.proofs.Outstanding.{entry_there, outstanding_set}
use Rattle.pf_core.proofs.Planning.{query_of}
use Rattle.pf_core.proofs.Progressing.{far_at}
use Rattle.pf_core.proofs.Seated.{stored}
use Rattle.pf_core.proofs.Standing.{core_cached, counts_as, state_beside, state_cached}
use Rattle.pf_core.proofs.Tenanted.{head_of}
use Rattle.pf_core.proofs.Closing.{far_kept as far_is}

-- ---- the generation of its tenant

pub tenant_known : (s : State) (query : ℕ) (o : Open) → IsState s → open_at query (machine_in s).queries ≡ Some o → o.tenant < length s.tenants.names
tenant_known s query o h there =
    let inside = open_each (λ p. p.tenant < length (machine_in s).logs) query (machine_in s).queries o h.history.keeps.are_open.known there in
    let many = h.history.stands.names.many in
    omega (arith, inside, many)

pub owner_known : (s : State) (query : ℕ) (q : Query) → IsState s → kept_in s query ≡ Some q → q.tenant < length s.tenants.names
owner_known s query q h kept =
    let found = kept_is (rules_of s.limits) (kept_in s query) (open_at query (machine_in s).queries) q (h.history.keeps.keeps_queries query) kept in
    let known = tenant_known s query found.opened h found.there in
    let same = found.is.tenant in
    omega (arith, known, same)

-- what every log that is kept tells is that of the tenant
generation_at : (s : State) (u g : ℕ) → IsState s → AreTenants s.tenants → u < length s.tenants.names
    → ((rules : Rules) (d : LogData) (log : List Change) → slice_get s.tenants.logs u ≡ Some d → IsLog rules d log → g ≡ (store_of rules log).generation)
    → g ≡ generation_of (core_of s) u
generation_at s u g h t inside told =
    let many = t.many_logs in
    let d = stored s.tenants.logs u (omega (arith, inside, many)) in
    let is = h.history.keeps.keeps_logs u d.element d.there in
    told (rules_of s.limits) d.element (log_of (machine_in s).logs u) d.there is

pub generation_is : (s : State) (query g : ℕ) (q : Query) (o : Open) → IsState s → kept_in s query ≡ Some q → open_at query (machine_in s).queries ≡ Some o
    → AreTenants s.tenants
    → ((rules : Rules) (d : LogData) (log : List Change) → slice_get s.tenants.logs q.tenant ≡ Some d → IsLog rules d log → g ≡ (store_of rules log).generation)
    → (g ≡ generation_of (core_of s) o.tenant) × (q.pin.generation ≡ (asker_of (rules_of s.limits) o).generation)
generation_is s query g q o h kept there t told =
    let is = query_of s query q o h kept there in (
      generation_at s o.tenant g h t (tenant_known s query o h there)
          (subst (λ u. (rules : Rules) (d : LogData) (log : List Change) → slice_get s.tenants.logs u ≡ Some d → IsLog rules d log → g ≡ (store_of rules log).generation) (sym is.tenant) told),
      is.pinned.aged,
    )

-- ---- what is kept

done_at : (l : Limits) (o : Open) (q : Query) → IsQuery (rules_of l) q o → (cells : List DoneCells) → Each (AreCellsOf l o) cells
    → Each (IsDoneAt (arc_value q.asked).query.grid.step) cells
done_at l o q is cells h =
    each_map (AreCellsOf l o) (IsDoneAt (arc_value q.asked).query.grid.step)
    (λ d c. record { step_is = c.run_is.step ∙ ap (λ (a : Asked). a.query.grid.step) is.asked; whole = c.whole }) cells h

-- what the code asks of the cache
pub record AsksOf (s : State) (q : Query) (cells : List DoneCells) : Type 0 where
  pub ranged : (arc_value q.asked).instant ≡ false
  pub each : Each (IsDoneAt (arc_value q.asked).query.grid.step) cells
  pub evaluated : AreEvaluated (rules_of s.limits) s.limits.interval (log_of (machine_in s).logs) (key_by q) (asker_by q.pin) (arc_value q.asked).query.tree cells

evaluated_one : (l : Limits) (logs : List (List Change)) (o : Open) (q : Query) → IsQuery (rules_of l) q o
    → take (length o.log) (log_of logs o.tenant) ≡ o.log → IsAsker (rules_of l) (log_of logs o.tenant) (asker_of (rules_of l) o)
    → (d : DoneCells) → AreCellsOf l o d
    → IsEvaluated (rules_of l) l.interval (log_of logs q.tenant) (key_of (key_by q) l.interval d) (asker_by q.pin) (arc_value q.asked).query.tree d.run d.cells
evaluated_one l logs o q is front asks d c =
    subst (λ u. IsEvaluated (rules_of l) l.interval (log_of logs u) (key_of (key_by q) l.interval d) (asker_by q.pin) (arc_value q.asked).query.tree d.run d.cells) is.tenant
    (subst (λ (a : Asked). IsEvaluated (rules_of l) l.interval (log_of logs o.tenant) (key_of (key_by q) l.interval d) (asker_by q.pin) a.query.tree d.run d.cells) is.asked
    (subst (λ (a : Asker). IsEvaluated (rules_of l) l.interval (log_of logs o.tenant) (key_of (key_by q) l.interval d) a o.asked.query.tree d.run d.cells)
    (sym (asker_same (rules_of l) q o is)) (record {
      asker_is = asks;
      values = λ k inside. subst (λ (log : List Change). eval (store_of (rules_of l) log).samples o.asked.query.tree (pos (d.run.start + k * d.run.step)) ≡ Good (slice_index_or d.cells k []))
          (sym front) (c.values k inside);
      place = c.place;
    })))

pub asks_of : (s : State) (query : ℕ) (q : Query) (cells : List DoneCells) → IsState s → kept_in s query ≡ Some q → IsKeepable (core_of s) query cells → AsksOf s q cells
asks_of s query q cells h kept k =
    let o = k.opened in
    let is = query_of s query q o h kept k.is_open in
    let front = front_of (map entry_of s.journal.items) query o k.is_open in
    record {
      ranged = ap (λ (a : Asked). a.instant) (sym is.asked) ∙ k.ranged;
      each = done_at s.limits o q is cells k.each;
      evaluated = each_map (AreCellsOf s.limits o) _
          (evaluated_one s.limits (machine_in s).logs o q is (front_taken (machine_in s).logs o front) (asker_stands (rules_of s.limits) (machine_in s).logs o front)) cells k.each;
    }

-- what is kept by the code is what is kept of the open query
pub kept_same : (s : State) (query : ℕ) (q : Query) (o : Open) (cells : List DoneCells) → IsState s → kept_in s query ≡ Some q
    → open_at query (machine_in s).queries ≡ Some o
    → kept_over (key_by q) (arc_value q.asked).query.tree (asker_by q.pin) s.limits.interval cells s.results ≡ kept_by s.limits o cells s.results
kept_same s query q o cells h kept there =
    let is = query_of s query q o h kept there in
    λ i. kept_over (key_is (rules_of s.limits) q o is i) (sym is.asked i).query.tree (asker_same (rules_of s.limits) q o is i) s.limits.interval cells s.results

pub fixed_same : (s : State) (query : ℕ) (q : Query) (o : Open) (cells : List DoneCells) → IsState s → kept_in s query ≡ Some q
    → open_at query (machine_in s).queries ≡ Some o
    → fixed_over (arc_value q.asked).query.tree (asker_by q.pin) cells ≡ fixed_by s.limits o cells
fixed_same s query q o cells h kept there =
    let is = query_of s query q o h kept there in
    λ i. fixed_over (sym is.asked i).query.tree (asker_same (rules_of s.limits) q o is i) cells

-- what the code keeps stays true, by the query that is kept
pub stays_by : (interval : ℕ) (q : Query) (a : Asked) (first : Key) (asker : Asker) (tree : Tree) (cells : List DoneCells) (old new : KeptData)
    → a ≡ arc_value q.asked → tree ≡ a.query.tree → first ≡ key_by q → asker ≡ asker_by q.pin → HasText a.query.tree → canonical a.query.tree ≡ a.text
    → ((rules : Rules) (logs : Logs) → AreTrue rules interval logs old.entries → HasText tree → canonical tree ≡ first.text
    → AreEvaluated rules interval logs first asker tree cells → AreTrue rules interval logs new.entries)
    → (rules : Rules) (logs : Logs) → AreTrue rules interval logs old.entries
    → AreEvaluated rules interval logs (key_by q) (asker_by q.pin) (arc_value q.asked).query.tree cells → AreTrue rules interval logs new.entries
stays_by interval q a first asker tree cells old new ea et ef ek written text stays rules logs h e =
    let tree_is : tree ≡ (arc_value q.asked).query.tree = et ∙ ap (λ (x : Asked). x.query.tree) ea in
    stays rules logs h (subst HasText (sym et) written) (ap canonical et ∙ text ∙ ap (λ (x : Asked). x.text) ea ∙ sym (ap (λ (k : Key). k.text) ef))
    (subst (λ (t : Tree). AreEvaluated rules interval logs first asker t cells) (sym tree_is)
    (subst (λ (x : Asker). AreEvaluated rules interval logs first x (arc_value q.asked).query.tree cells) (sym ek)
    (subst (λ (k : Key). AreEvaluated rules interval logs k (asker_by q.pin) (arc_value q.asked).query.tree cells) (sym ef) e)))

pub fixed_state : (old new : State) (query : ℕ) (q : Query) (cells : List DoneCells) → IsState old → kept_in old query ≡ Some q → IsKeepable (core_of old) query cells
    → IsSameButCache old new
    → ((rules : Rules) (logs : Logs) → AreTrue rules old.limits.interval logs old.results.entries
    → AreEvaluated rules old.limits.interval logs (key_by q) (asker_by q.pin) (arc_value q.asked).query.tree cells
    → AreTrue rules old.limits.interval logs new.results.entries)
    → IsState new
fixed_state old new query q cells h kept k same stays =
    state_cached old new h same (stays (rules_of old.limits) (log_of (machine_in old).logs) h.stands.kept (asks_of old query q cells h kept k).evaluated)

-- ---- the query is offered

work_offered : (l : Limits) (o : Open) (w : Option WorkData) → IfSome w (IsWorkOf l o) → IfSome (option_map works.offered w) (IsWorkOf l o)
work_offered l o None h = tt
work_offered l o (Some w) h = record {
  legs_are = h.legs_are;
  evaluable = h.evaluable;
  runs = h.runs;
  divided = h.divided;
  few = h.few;
  reused = h.reused;
  once = λ _. refl;
  fits = h.fits;
  values = h.values;
}

-- a query whose runs are covered is planned
far_offered : (query : ℕ) (d : EntryData) (cells : List DoneCells) → is_covered_in (Some d) cells ≡ true
    → (n : ℕ) → far_of query (Some (record d { work = option_map works.offered d.work })) n ≡ progress.offered (far_of query (Some d) n)
far_offered query d cells h n = by d.work h where
  by : (w : Option WorkData) → is_covered_by w cells ≡ true
      → far_of query (Some (record d { work = option_map works.offered w })) n ≡ progress.offered (far_of query (Some (record d { work = w })) n)
  by None e = cc
  by (Some w) e = refl

-- whether it is
covered_far : (query : ℕ) (d : EntryData) (n : ℕ) (cells : List DoneCells) → is_offered_by (far_of query (Some d) n) cells ≡ is_covered_in (Some d) cells
covered_far query d n cells = by d.work where
  by : (w : Option WorkData) → (is_planned w && covers (runs_of w) cells) ≡ is_covered_by w cells
  by None = refl
  by (Some w) = refl

offered_progress : (old new : State) (query : ℕ) (d : EntryData) (cells : List DoneCells) → KeepsHistory old new → entry_in old.table query ≡ Some d
    → is_covered_in (Some d) cells ≡ true → Offers old.table query d new.table
    → (core_of new).progress ≡ with_progress query progress.offered (core_of old).progress
offered_progress old new query d cells k there covered x =
    progress_set old new query progress.offered (Some d) _ k there x.entries x.tried (far_offered query d cells covered)

-- it is planned as before
goes_offered : (stop : Option Stop) (work : Option WorkData) → GoesWithPlan stop (is_planned work) → GoesWithPlan stop (is_planned (option_map works.offered work))
goes_offered stop None h = h
goes_offered stop (Some w) h = h

offered_state : (old new : State) (query : ℕ) (d : EntryData) (cells : List DoneCells) → IsState old → KeepsHistory old new → KeepsFailures old new → IsTable new.table
    → entry_in old.table query ≡ Some d → is_covered_in (Some d) cells ≡ true → Offers old.table query d new.table → IsState new
offered_state old new query d cells h k f t there covered x =
    let a = ask_of old query d h there in
    state_beside old new h k f.results t (counts_as old new f h.counts)
    (outstanding_set old.limits query (machine_in old).queries a.opened _ (entry_in old.table) (entry_in new.table) h.jobs.outstanding a.there
    (record {
      tenant = a.is.tenant;
      stop = a.is.stop;
      stopped_when = goes_offered d.stop d.work a.is.stopped_when;
      work = work_offered old.limits a.opened d.work a.is.work;
    }) x.entries)
    (λ u. subst (λ (js : List Job). Each (JobStands (map entry_of old.journal.items) old.limits) js) (sym (x.queues.queues u).waiting) (h.jobs.waiting_for u))
    (covered_beside old new h k f x.tried)

-- a query that is covered has an entry
record HasCovered (e : Option EntryData) (cells : List DoneCells) : Type 0 where
  kept : EntryData
  there : e ≡ Some kept
  covered : is_covered_in (Some kept) cells ≡ true

has_covered : (e : Option EntryData) (cells : List DoneCells) → is_covered_in e cells ≡ true → HasCovered e cells
has_covered None cells h = cc
has_covered (Some d) cells h = record { kept = d; there = refl; covered = h }

offers_of : (old new : State) (query : ℕ) (d : EntryData) → entry_in old.table query ≡ Some d → table.IsOffered old.table query new.table
    → Offers old.table query d new.table
offers_of old new query d there x =
    subst (λ (e : Option EntryData). MatchOption e (IsSameTable old.table new.table) (λ c. Offers old.table query c new.table)) there x

pub offers_state : (old new : State) (query : ℕ) (cells : List DoneCells) → IsState old → KeepsHistory old new → KeepsFailures old new → IsTable new.table
    → is_covered_in (entry_in old.table query) cells ≡ true → table.IsOffered old.table query new.table → IsState new
offers_state old new query cells h k f t covered x =
    let e = has_covered (entry_in old.table query) cells covered in
    offered_state old new query e.kept cells h k f t e.there e.covered (offers_of old new query e.kept e.there x)

covered_is : (s : State) (query : ℕ) (o : Open) (far : QueryProgress) (cells : List DoneCells) → IsState s → open_at query (machine_in s).queries ≡ Some o
    → progress_at query (core_of s).progress ≡ Some far → is_offered_by far cells ≡ is_covered_in (entry_in s.table query) cells
covered_is s query o far cells h there is =
    let e = entry_there s.limits (open_at query (machine_in s).queries) (entry_in s.table query) o (h.jobs.outstanding query) there in
    ap (λ (p : QueryProgress). is_offered_by p cells) (far_is s query o far there is
    ∙ ap (λ (x : Option EntryData). far_of query x (tried_of s.table query)) e.there)
    ∙ covered_far query e.kept (tried_of s.table query) cells ∙ ap (λ (x : Option EntryData). is_covered_in x cells) (sym e.there)

pub offers : (old new : State) (query : ℕ) (cells : List DoneCells) → IsState old → KeepsHistory old new → KeepsFailures old new
    → is_covered_in (entry_in old.table query) cells ≡ true → table.IsOffered old.table query new.table → IsOfferedIf (core_of old) query cells (core_of new)
offers old new query cells h k f covered x =
    let e = has_covered (entry_in old.table query) cells covered in
    let y = offers_of old new query e.kept e.there x in
    record {
      progress_is = λ o far there is.
          offered_progress old new query e.kept cells k e.there e.covered y
          ∙ sym (ap (λ (b : Bool). cond b (with_progress query progress.offered (core_of old).progress) (core_of old).progress)
          (covered_is old query o far cells h there is ∙ covered));
      history = history_same old new k;
      queues = λ i. by_tenant (λ u. record { waiting = map head_of ((y.queues.queues u).waiting i); hands = (y.queues.queues u).hands i });
      ring = y.queues.ring;
      failed = ap (λ (v : _). v.items) f.failed;
      kept = f.results;
    }

pub offers_none : (s : State) (query : ℕ) (cells : List DoneCells) → IsState s → is_covered_in (entry_in s.table query) cells ≡ false
    → IsOfferedIf (core_of s) query cells (core_of s)
offers_none s query cells h uncovered = record {
  progress_is = λ o far there is.
      sym (ap (λ (b : Bool). cond b (with_progress query progress.offered (core_of s).progress) (core_of s).progress)
      (covered_is s query o far cells h there is ∙ uncovered));
  history = record { limits = refl; names = refl; journal = refl };
  queues = refl;
  ring = refl;
  failed = refl;
  kept = refl;
}

-- ---- both

-- a query as it is open, and how far it is
far_open : (s : State) (query : ℕ) (o : Open) → open_at query (machine_in s).queries ≡ Some o
    → progress_at query (core_of s).progress ≡ Some (far_of query (entry_in s.table query) (tried_of s.table query))
far_open s query o there = far_at query (machine_in s).queries (entry_in s.table) (tried_of s.table) o there

as_kept : (old : State) (mid new : CoreData) (query : ℕ) (cells : List DoneCells) (answer : Kept) (o : Open) → open_at query (machine_in old).queries ≡ Some o
    → KeepsCells (core_of old) o cells answer mid.kept
    → IsOfferedIf (record (core_of old) { kept = mid.kept }) query cells new → IsKeptOf (core_of old) query cells answer new
as_kept old mid new query cells answer o there keeps x = record {
  opened = o;
  is_open = there;
  far = far_of query (entry_in old.table query) (tried_of old.table query);
  is_far = far_open old query o there;
  keeps = subst (KeepsCells (core_of old) o cells answer) (sym x.kept) keeps;
  progress_is = x.progress_is o (far_of query (entry_in old.table query) (tried_of old.table query)) there (far_open old query o there);
  history = record { limits = x.history.limits; names = x.history.names; journal = x.history.journal };
  queues = x.queues;
  ring = x.ring;
  failed = x.failed;
}

pub keeps_whole : (old mid : State) (new : CoreData) (query : ℕ) (cells : List DoneCells) (answer : Kept) → IsKeepable (core_of old) query cells → IsSameButCache old mid
    → ((o : Open) → open_at query (machine_in old).queries ≡ Some o → KeepsCells (core_of old) o cells answer mid.results)
    → IsOfferedIf (core_of mid) query cells new → IsKeptOf (core_of old) query cells answer new
keeps_whole old mid new query cells answer k same keeps x =
    as_kept old (core_of mid) new query cells answer k.opened k.is_open (keeps k.opened k.is_open)
    (subst (λ (c : CoreData). IsOfferedIf c query cells new) (core_cached old mid same) x)
