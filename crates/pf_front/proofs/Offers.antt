-- What was found of a query is offered, and kept.
use Rattle.std.proofs.Common.{◌≡◌, ◌∙◌, inl, inr, ℕ, suc, Bool, true, false, ◌&&◌, cond, Option, Some, List, [], ◌∷◌, ◌++◌, IsSome, IfOk, length, refl, sym, ap, subst}
use Rattle.std.specs.Prelude.{Result, Ok, Err, slice_index_or}
use Rattle.std.proofs.lemmas.Bool.{false≢true}
use Rattle.pf_base.proofs.GridTimes.{length-times_from}
use Rattle.pf_base.specs.GridLists.{GridData}
use Rattle.pf_base.specs.Grids.{points}
use Rattle.pf_base.specs.declared.plain.Limits.{Limits}
use Rattle.pf_base.specs.declared.plain.Row.{Row}
use Rattle.pf_columns.specs.Columns.{timed}
use Rattle.pf_core.specs.Calls.{IsGathered, IsGivenBefore, IsHandedOut, IsKeepable, IsKeptOf, IsLacked, IsStoppedBy, is_offered_by}
use Rattle.pf_core.specs.Cores.{CoreData, IsOpened, Stands, machine_of}
use Rattle.pf_core.specs.Jobs.{QueueHeads, no_heads, pieces_in}
use Rattle.pf_core.specs.Progress.{QueryProgress, offered, progress_at, with_progress}
use Rattle.pf_core.specs.declared.answers.Kept.{Kept}
use Rattle.pf_core.specs.declared.answers.Opened.{Opened}
use Rattle.pf_extent.specs.declared.done.DoneCells.{DoneCells}
use Rattle.pf_front.proofs.Failures.{answer_gathered}
use Rattle.pf_front.proofs.Plans.{lacked_works, some_open}
use Rattle.pf_front.proofs.Progress.{at_changed, progress_of, some_is}
use Rattle.pf_front.proofs.Settled.{handed, open_over, starved}
use Rattle.pf_front.proofs.Spans.{wanted_lie}
use Rattle.pf_front.proofs.Tries.{same_failed, same_sum, works_refl}
use Rattle.pf_front.specs.Keeps.{AreKept, IsFoundKept, IsInstant, IsKeptAs, IsKeptFor, IsOfferedAs, IsReady, IsUnkept}
use Rattle.pf_front.specs.Settling.{AreCellsOver, AreNoted, AreOfferable, IsEvaluable, IsFoundFor, IsFoundOf, IsOffered, IsWholeFound, runs_over, whole_runs}
use Rattle.pf_front.specs.Spans.{AllCells, AreCellsAt, AreNotedOf, IsNotedBy, piece_runs, runs_in}
use Rattle.pf_front.specs.Works.{WorksOn}
use Rattle.pf_front.specs.declared.keeping.Keeping.{Keeping}
use Rattle.pf_front.specs.declared.keeping.Keeping.TheVariants as keeping
use Rattle.pf_front.specs.declared.outcome.Found.{Found}
use Rattle.pf_front.specs.declared.outcome.Found.TheVariants as found
use Rattle.pf_journal.specs.Machine.{Open, answer_of, open_at}
use Rattle.pf_model.specs.Direct.{MatrixRow, gather, gathered}
use Rattle.pf_model.specs.Lists.{Each}
use Rattle.pf_model.specs.Log.{rules_of, store_of}
use Rattle.pf_model.specs.Trees.{Tree}
use Rattle.pf_query.specs.Covers.{CoverMore, covers, lies_in}
use Rattle.pf_query.specs.declared.gathered.Gathered.{Gathered}
use Rattle.pf_query.specs.declared.stop.Stop.TheVariants.{Starved}
use Rattle.pf_results.specs.Woven.{AreWoven, wanted_in}
use Rattle.pf_split.specs.declared.splitting.Piece.{Piece}

-- ---- the matrix of cells

many_at : (samples : List Row) (query : Tree) (ts : List ℕ) (cells : AllCells) → AreCellsAt samples query ts cells → length cells ≡ length ts
many_at samples query [] [] a = refl
many_at samples query [] (c ∷ cells) a = absurd a
many_at samples query (t ∷ ts) [] a = absurd a
many_at samples query (t ∷ ts) (c ∷ cells) a = ap suc (many_at samples query ts cells a.1)

pub many_cells : (l : Limits) (found : Option Open) (grid : GridData) (cells : AllCells) → IsSome found → ((o : Open) → found ≡ Some o → grid ≡ o.asked.query.grid)
    → ((o : Open) → found ≡ Some o → AreCellsOver l o cells) → length cells ≡ grid.len
many_cells l found grid cells opens is over =
    let o = some_open found opens in
    let g = o.0.asked.query.grid in
    many_at (store_of (rules_of l) o.0.log).samples o.0.asked.query.tree (points g) cells (over o.0 o.1)
    ∙ length-times_from g.start g.step g.len ∙ ap (λ (x : GridData). x.len) (sym (is o.0 o.1))

pub matrix_is : (l : Limits) (o : Open) (grid : GridData) (pieces cells : AllCells) (rows : List MatrixRow) → grid ≡ o.asked.query.grid → AreCellsOver l o pieces
    → cells ≡ pieces → rows ≡ gather (timed (points grid) cells) → answer_of l o ≡ gathered rows
matrix_is l o grid pieces cells rows g over same is =
    answer_gathered (store_of (rules_of l) o.log).samples o.asked.query.tree (points o.asked.query.grid) pieces over
    ∙ ap gathered ((λ i. gather (timed (points (sym g i)) (sym same i))) ∙ sym is)

-- ---- cells cover the runs of jobs

empty_covers : (rs : List GridData) (ds : List DoneCells) → rs ≡ [] → ds ≡ [] → covers rs ds ≡ true
empty_covers rs ds r d = (λ i. covers (r i) (d i))

noted_by : CoverMore → (p : Piece) (own rest : List GridData) (ds ds' : List DoneCells) → Each (λ r. lies_in r p.run ≡ true) own → IsNotedBy p own ds ds' → covers rest ds' ≡ true
    → covers (own ++ rest) ds ≡ true
noted_by law p [] rest ds ds' lie n h = ap (covers rest) n ∙ h
noted_by law p (r ∷ rs) rest ds ds' lie (d, is, e) h =
    ap (covers (r ∷ rs ++ rest)) e
    ∙ law (r ∷ rs) rest d ds' (subst (λ (g : GridData). Each (λ x. lies_in x g ≡ true) (r ∷ rs)) (sym is) lie) h

-- those that they are of
pub noted_cover : CoverMore → (ps : List Piece) (rs : List GridData) (ds : List DoneCells) → AreNotedOf ps rs ds → covers rs ds ≡ true
noted_cover law [] rs ds n = empty_covers rs ds n.0 n.1
noted_cover law (p ∷ ps) rs ds n =
    ap (λ xs. covers xs ds) n.4 ∙ noted_by law p n.0 n.1 ds n.2 n.3 n.5 (noted_cover law ps n.1 n.2 n.6)

-- the cells of all pieces cover any runs that are woven of them
pub whole_cover : CoverMore → (ps : List Piece) (others : List DoneCells) (rs : List GridData) (ds : List DoneCells) → AreWoven ps others rs → runs_in ds ≡ piece_runs ps
    → covers rs ds ≡ true
whole_cover law [] others rs [] w e = ap (λ xs. covers xs []) w.1
whole_cover law [] others rs (d ∷ ds) w e = absurd (no e) where
  no : d.run ∷ runs_in ds ≡ [] → ⊥
  no k = cc
whole_cover law (p ∷ ps) others rs [] w e = absurd (no e) where
  no : [] ≡ p.run ∷ piece_runs ps → ⊥
  no k = cc
whole_cover law (p ∷ ps) others rs (d ∷ ds) w e =
    let is : p.run ≡ d.run = sym (heads e) in
    ap (λ xs. covers xs (d ∷ ds)) w.5
    ∙ law (wanted_in w.0) w.2 d ds (subst (λ (g : GridData). Each (λ x. lies_in x g ≡ true) (wanted_in w.0)) is (wanted_lie p.run w.0 w.3))
    (whole_cover law ps w.1 w.2 ds w.6 (tails e)) where
      heads : d.run ∷ runs_in ds ≡ p.run ∷ piece_runs ps → d.run ≡ p.run
      heads k = cc

      tails : d.run ∷ runs_in ds ≡ p.run ∷ piece_runs ps → runs_in ds ≡ piece_runs ps
      tails k = cc

-- ---- what was found may be kept

module _ (c : CoreData) (query : ℕ) (s : Stands c) (e : IsEvaluable c query) where
  offerable_by : (runs : List GridData) (noted : List DoneCells) → AreNoted c.limits e.whole.opened runs noted → covers e.whole.far.runs noted ≡ true → AreOfferable c query noted
  offerable_by runs noted n cover = record {
    opened = e.whole.opened;
    is_open = e.whole.is_open;
    far = e.whole.far;
    is_far = e.whole.is_far;
    few = n.few;
    each = n.each;
    cover = cover;
  }

  for_parts : CoverMore → (runs : List GridData) (f : Found) → runs ≡ e.whole.far.runs → IsFoundOf c.limits e.whole.opened runs f → IsFoundFor c query f
  unfolding offerable_by
  for_parts law runs (found.Cells pieces noted) same h =
      record {
        offerable =
            offerable_by runs noted.items h.1
            (subst (λ rs. covers rs noted.items ≡ true) same (noted_cover law (pieces_in c.limits e.whole.opened) runs noted.items h.1.pieces));
        cells = h.0;
      }
  for_parts law runs (found.Failed step kind) same h = (e.whole.opened, e.whole.is_open, h)

  for_whole : CoverMore → (f : Found) → IsFoundOf c.limits e.whole.opened (whole_runs c.limits e.whole.opened) f → IsWholeFound c.limits e.whole.opened f → IsFoundFor c query f
  unfolding offerable_by
  for_whole law (found.Cells pieces noted) h w =
      let p = progress_of c.limits query (machine_of c).queries c.progress e.whole.opened e.whole.far s.progressing e.whole.is_open e.whole.is_far in
      let runs = p.runs e.was_planned in
      record {
        offerable =
            offerable_by (whole_runs c.limits e.whole.opened) noted.items h.1
            (whole_cover law (pieces_in c.limits e.whole.opened) runs.others e.whole.far.runs noted.items runs.woven w);
        cells = h.0;
      }
  for_whole law (found.Failed step kind) h w = (e.whole.opened, e.whole.is_open, h)

  pub found_by_parts : {E : Type 0} (r : Result Found E) (runs : List GridData) → CoverMore → runs ≡ e.whole.far.runs
      → IfOk r (λ f. (o : Open) → open_at query (machine_of c).queries ≡ Some o → IsFoundOf c.limits o runs f) → IfOk r (IsFoundFor c query)
  found_by_parts (Ok f) runs law same h = for_parts law runs f same (h e.whole.opened e.whole.is_open)
  found_by_parts (Err x) runs law same h = tt

  pub found_by_whole : {E : Type 0} (r : Result Found E) → CoverMore
      → IfOk r (λ f. (o : Open) → open_at query (machine_of c).queries ≡ Some o → IsFoundOf c.limits o (whole_runs c.limits o) f)
      → IfOk r (λ f. (o : Open) → open_at query (machine_of c).queries ≡ Some o → IsWholeFound c.limits o f) → IfOk r (IsFoundFor c query)
  found_by_whole (Ok f) law h w = for_whole law f (h e.whole.opened e.whole.is_open) (w e.whole.opened e.whole.is_open)
  found_by_whole (Err x) law h w = tt

  -- ---- a query is offered

  module _ (noted : List DoneCells) (n : AreOfferable c query noted) where
    same_far : e.whole.far ≡ n.far
    same_far = some_is e.whole.far n.far (sym e.whole.is_far ∙ n.is_far)

    pub keepable : n.opened.asked.instant ≡ false → IsKeepable c query noted
    keepable ranged = record { opened = n.opened; is_open = n.is_open; ranged = ranged; few = n.few; each = n.each }

    not_instant : (b : Bool) → n.opened.asked.instant ≡ b → n.far.offered ≡ false → n.opened.asked.instant ≡ false
    not_instant true is un =
        let p = progress_of c.limits query (machine_of c).queries c.progress n.opened n.far s.progressing n.is_open n.is_far in
        absurd (false≢true (sym un ∙ p.alone (ap (λ (f : QueryProgress). f.planned) (sym same_far) ∙ e.was_planned) is))
    not_instant false is un = is

    -- one that isn't offered is no instant query
    pub offer_keepable : (o : Opened) → IsOpened c query o → o.offered ≡ false → IsKeepable c query noted
    offer_keepable o is un =
        let same : is.far ≡ n.far = some_is is.far n.far (sym is.is_far ∙ n.is_far) in
        keepable (not_instant n.opened.asked.instant refl (ap (λ (f : QueryProgress). f.offered) (sym same) ∙ is.offered ∙ un))

    pub offered_by : (answer : Kept) (new : CoreData) → IsKeptOf c query noted answer new → IsOffered new query
    offered_by answer new k =
        let w = e.whole in
        let same : k.far ≡ w.far = some_is k.far w.far (sym k.is_far ∙ w.is_far) in
        let cover : covers w.far.runs noted ≡ true = ap (λ (f : QueryProgress). covers f.runs noted) same_far ∙ n.cover in
        let flag : is_offered_by k.far noted ≡ true =
        ap (λ (f : QueryProgress). f.planned && covers f.runs noted) same ∙ (λ i. e.was_planned i && cover i) in
        let progress : new.progress ≡ with_progress query offered c.progress =
        k.progress_is ∙ ap (λ b. cond b (with_progress query offered c.progress) c.progress) flag in (
          record {
            whole = record {
              opened = w.opened;
              is_open = open_over c new query w.opened k.history.journal w.is_open;
              cancelled_at = w.cancelled_at;
              far = offered w.far;
              is_far = ap (progress_at query) progress ∙ at_changed query offered (λ p. refl) c.progress w.far w.is_far;
              stop_is = w.stop_is;
            };
            was_planned = e.was_planned;
            given = e.given;
          },
          refl,
        )

    pub kept_as : (o : Opened) (is : IsOpened c query o) → is.opened.asked.instant ≡ false → (answer : Kept) (new : CoreData) → IsKeptOf c query noted answer new
        → IsKeptAs c query noted answer new
    kept_as o is ranged answer new k =
        let same : is.opened ≡ n.opened = some_is is.opened n.opened (sym is.is_open ∙ n.is_open) in
        record {
          keepable = keepable (ap (λ (x : Open). x.asked.instant) (sym same) ∙ ranged);
          kept = k;
          offered = offered_by answer new k;
        }

  pub offered_before : (o : Opened) → IsOpened c query o → o.offered ≡ true → IsOffered c query
  offered_before o is before =
      let same : is.far ≡ e.whole.far = some_is is.far e.whole.far (sym is.is_far ∙ e.whole.is_far) in
      (e, ap (λ (f : QueryProgress). f.offered) (sym same) ∙ is.offered ∙ before)

pub kept_works : (old : CoreData) (query : ℕ) (cells : List DoneCells) (answer : Kept) (new : CoreData) → IsKeptOf old query cells answer new → WorksOn 0 0 old new
kept_works old query cells answer new k = record {
  history = k.history;
  hands = λ u. ap (λ (qs : List QueueHeads). (slice_index_or qs u no_heads).hands) k.queues;
  failed = same_sum old.failed new.failed k.failed;
  carried = same_failed old new k.failed;
}

-- ---- what a keep came to

pub starved_kept : (old : CoreData) (query : ℕ) (new : CoreData) → IsEvaluable old query → IsLacked old query new
    → WorksOn 0 0 old new × (IsStoppedBy new query Starved × (new.kept ≡ old.kept))
starved_kept old query new e l =
    (lacked_works old query new e.whole.opened e.whole.is_open l, (starved old query new e.whole l, (l.some e.whole.opened e.whole.is_open).kept))

-- the parts were handed out, or had been before
pub record IsHanded (old : CoreData) (query : ℕ) (mid : CoreData) : Type 0 where
  pub ready : IsReady old query
  pub works : WorksOn 0 0 old mid
  pub kept_is : mid.kept ≡ old.kept
  pub evaluable : IsEvaluable mid query
  pub same : evaluable.whole.opened ≡ ready.whole.opened

pub handed_parts : (old : CoreData) (query : ℕ) (g : Gathered) (mid : CoreData) → IsGathered old query g → IsHandedOut old query mid → IsHanded old query mid
handed_parts old query g mid parts out =
    let t = handed 0 0 old old query g mid (works_refl old) parts out in
    let whole = parts.counts.whole in
    record {
      ready = parts.counts;
      works = t.0;
      kept_is = out.jobs.kept;
      evaluable = t.1.0;
      same =
          some_is t.1.0.whole.opened whole.opened
          (sym t.1.0.whole.is_open ∙ open_over old mid query whole.opened out.history.journal whole.is_open);
    }

pub handed_before : (old : CoreData) (query : ℕ) (mid : CoreData) → IsGivenBefore old query → mid ≡ old → IsHanded old query mid
handed_before old query mid g e =
    subst (IsHanded old query) (sym e)
    (record {
      ready = g.counts;
      works = works_refl old;
      kept_is = refl;
      evaluable = record { whole = g.counts.whole; was_planned = g.counts.was_planned; given = g.given };
      same = refl;
    })

module _ (old mid : CoreData) (query : ℕ) (h : IsHanded old query mid) (new : CoreData) where
  unkept : new.kept ≡ mid.kept → IsUnkept old query new
  unkept e = record { ready = h.ready; kept_is = e ∙ h.kept_is }

  module _ (runs : List GridData) (runs_are : runs ≡ runs_over old.limits h.ready.whole.opened h.ready.whole.far) where
    offered_as : (noted : List DoneCells) (answer : Kept) → AreNoted mid.limits h.evaluable.whole.opened runs noted → IsKeptAs mid query noted answer new
        → IsOfferedAs old query answer new
    offered_as noted answer n k = record {
      ready = h.ready;
      middle = mid;
      works = h.works;
      kept_is = h.kept_is;
      cells = noted;
      pieces =
          subst (λ (xs : List GridData). AreNotedOf (pieces_in old.limits h.ready.whole.opened) xs noted) runs_are
          (subst (λ (o : Open). AreNotedOf (pieces_in old.limits o) runs noted) h.same
          (subst (λ (l : Limits). AreNotedOf (pieces_in l h.evaluable.whole.opened) runs noted) h.works.history.limits n.pieces));
      kept = k;
    }

    instant_before : IsInstant mid query → IsInstant old query
    instant_before (o, there, is) = (o, open_over mid old query o (sym h.works.history.journal) there, is)

    cells_kept : (noted : List DoneCells) (told : Keeping) → AreNoted mid.limits h.evaluable.whole.opened runs noted → AreKept mid query noted told new
        → IsKeptFor old query told new
    cells_kept noted (keeping.Kept steps) n (inl k) = inl (offered_as noted _ n k)
    cells_kept noted (keeping.Kept steps) n (inr (is, (none, same))) = inr (unkept (ap (λ (c : CoreData). c.kept) same), (instant_before is, none))
    cells_kept noted (keeping.Outdated generation) n k = offered_as noted _ n k
    cells_kept noted keeping.NoMemory n k = inl (offered_as noted _ n k)
    cells_kept noted keeping.Failed n k = absurd k
    cells_kept noted (keeping.Waits jobs) n k = absurd k
    cells_kept noted keeping.Stopped n k = absurd k
    cells_kept noted keeping.Unplanned n k = absurd k

    pub kept_for : {E : Type 0} (r : Result Found E) (told : Keeping) → IfOk r (IsFoundOf mid.limits h.evaluable.whole.opened runs) → IsFoundKept mid query r told new
        → IsKeptFor old query told new
    unfolding unkept
    kept_for (Ok (found.Cells pieces noted)) told f k = cells_kept noted.items told f.1 k
    kept_for (Ok (found.Failed step kind)) told f k =
        subst (λ (t : Keeping). IsKeptFor old query t new) (sym k.0) (
          unkept (ap (λ (c : CoreData). c.kept) k.1),
          step,
          kind,
          (λ i. answer_of (sym h.works.history.limits i) (sym h.same i)) ∙ f,
        )
    kept_for (Err x) told f k = subst (λ (t : Keeping). IsKeptFor old query t new) (sym k.0) (inr (unkept k.1.1, k.1.0))

found_at : {E : Type 0} (mid : CoreData) (query : ℕ) (o : Open) (runs : List GridData) (r : Result Found E) → open_at query (machine_of mid).queries ≡ Some o
    → IfOk r (λ f. (o : Open) → open_at query (machine_of mid).queries ≡ Some o → IsFoundOf mid.limits o runs f) → IfOk r (IsFoundOf mid.limits o runs)
found_at mid query o runs (Ok x) there f = f o there
found_at mid query o runs (Err x) there f = tt

whole_at : {E : Type 0} (mid : CoreData) (query : ℕ) (o : Open) (r : Result Found E) → open_at query (machine_of mid).queries ≡ Some o
    → IfOk r (λ f. (o : Open) → open_at query (machine_of mid).queries ≡ Some o → IsFoundOf mid.limits o (whole_runs mid.limits o) f)
    → IfOk r (IsFoundOf mid.limits o (whole_runs mid.limits o))
whole_at mid query o (Ok x) there f = f o there
whole_at mid query o (Err x) there f = tt

-- of parts that were handed out
pub kept_parts : {E : Type 0} (old mid : CoreData) (query : ℕ) (g : Gathered) (new : CoreData) (r : Result Found E) (told : Keeping) → IsGathered old query g
    → IsHandedOut old query mid → IfOk r (λ f. (o : Open) → open_at query (machine_of mid).queries ≡ Some o → IsFoundOf mid.limits o g.runs.items f)
    → IsFoundKept mid query r told new → IsKeptFor old query told new
kept_parts old mid query g new r told parts out f k =
    let h = handed_parts old query g mid parts out in
    let w = h.evaluable.whole in
    let far = h.ready.whole.far in
    kept_for old mid query h new g.runs.items (ready_runs old query g parts h) r told (found_at mid query w.opened g.runs.items r w.is_open f) k where
      ready_runs : (old : CoreData) (query : ℕ) (g : Gathered) (parts : IsGathered old query g) (h : IsHanded old query mid)
          → g.runs.items ≡ runs_over old.limits h.ready.whole.opened h.ready.whole.far
      ready_runs old query g parts h =
          let o : parts.counts.whole.opened ≡ h.ready.whole.opened = some_is parts.counts.whole.opened h.ready.whole.opened (sym parts.counts.whole.is_open ∙ h.ready.whole.is_open) in
          let far : parts.counts.whole.far ≡ h.ready.whole.far = some_is parts.counts.whole.far h.ready.whole.far (sym parts.counts.whole.is_far ∙ h.ready.whole.is_far) in
          parts.runs_are ∙ sym (ap (λ b. cond b (whole_runs old.limits parts.counts.whole.opened) parts.counts.whole.far.runs) parts.first)
          ∙ (λ i. runs_over old.limits (o i) (far i))

-- and of a query that is evaluated again
pub kept_again : {E : Type 0} (old mid : CoreData) (query : ℕ) (new : CoreData) (r : Result Found E) (told : Keeping) → IsGivenBefore old query → mid ≡ old
    → IfOk r (λ f. (o : Open) → open_at query (machine_of mid).queries ≡ Some o → IsFoundOf mid.limits o (whole_runs mid.limits o) f)
    → IsFoundKept mid query r told new → IsKeptFor old query told new
kept_again old mid query new r told g e f k =
    let h = handed_before old query mid g e in
    let w = h.evaluable.whole in
    let far : g.counts.whole.far ≡ h.ready.whole.far = some_is g.counts.whole.far h.ready.whole.far (sym g.counts.whole.is_far ∙ h.ready.whole.is_far) in
    let given : h.ready.whole.far.given ≡ true = ap (λ (x : QueryProgress). x.given) (sym far) ∙ g.given in
    kept_for old mid query h new (whole_runs mid.limits w.opened)
    ((λ i. whole_runs (h.works.history.limits i) (h.same i))
    ∙ sym (ap (λ b. cond b (whole_runs old.limits h.ready.whole.opened) h.ready.whole.far.runs) given)) r told
    (whole_at mid query w.opened r w.is_open f) k
