-- A query over all its pieces.
use Rattle.std.proofs.Common.{◌≡◌, ◌∙◌, ◌⊎◌, inl, inr, ℕ, ◌+◌, ◌-◌, ◌*◌, ◌/◌, ◌%◌, ◌<◌, nat_eq, Option, Some, None, List, [], ◌∷◌, ◌++◌, get_or, length, take, refl, sym, ap, subst, arith}
use Rattle.std.specs.Arc.{arc_value}
use Rattle.std.specs.List.{slice_get}
use Rattle.std.specs.Prelude.{Contains}
use Rattle.std.proofs.lemmas.Bool.{eqb-true}
use Rattle.std.proofs.lemmas.List.{length-append, length_push}
use Rattle.std.proofs.lemmas.Nat.{div-add-mod', div-mul-add, mod-mul-add}
use Rattle.std.proofs.lemmas.Option.{slice_get_within}
use Rattle.std.proofs.Math.Seq.{take-add}
use Rattle.std.proofs.lemmas.List.Elements.{Contains-append_left, Contains-append_right}
use Rattle.pf_base.specs.GridLists.{GridData, IsGrid, times_from}
use Rattle.pf_base.specs.Grids.{points}
use Rattle.pf_base.specs.declared.plain.Limits.{Limits}
use Rattle.pf_base.specs.declared.plain.Row.{Row}
use Rattle.pf_block.specs.Snaps.{SnapData}
use Rattle.pf_core.specs.Calls.{BindsOpen}
use Rattle.pf_core.specs.Cores.{CoreData}
use Rattle.pf_core.specs.Jobs.{AreDivided, AreParts, IsLegsOf, IsRunOf, IsValueOver, pieces_in}
use Rattle.pf_extent.specs.declared.done.DoneCells.{DoneCells}
use Rattle.pf_front.proofs.Failures.{drop_next}
use Rattle.pf_front.proofs.LegParts.{evaluable_over, got_append, got_more, one_more}
use Rattle.pf_front.proofs.Spans.{each_append, pieces_woven, span_points}
use Rattle.pf_front.specs.Settling.{AreAllParts, AreFirstParts, AreLegValues, HasParts, whole_runs}
use Rattle.pf_front.specs.Spans.{piece_runs, whole_spans}
use Rattle.pf_journal.specs.Machine.{Open}
use Rattle.pf_model.specs.Lists.{Each}
use Rattle.pf_model.specs.Log.{AreApart, rules_of, store_of}
use Rattle.pf_query.specs.declared.gathered.Gathered.{Gathered}
use Rattle.pf_results.specs.Woven.{AreWoven, IsWoven, rest_of, wanted}
use Rattle.pf_shard.specs.Bound.{AreBoundOver}
use Rattle.pf_shard.specs.LegParts.{FitsNodes}
use Rattle.pf_shard.specs.Lawful.{ResolvedLegs, leg_count, legs_data}
use Rattle.pf_shard.specs.declared.parts.Part.{Part}
use Rattle.pf_split.specs.Pieces.{pieces_of}
use Rattle.pf_split.specs.declared.splitting.Piece.{Piece}
use Rattle.pf_store.specs.Standing.{StandsFor}

-- ---- each piece as one run

pub whole_woven : (g : GridData) (ps : List Piece) → IsWoven g (whole_spans ps) → AreWoven ps [] (piece_runs ps)
whole_woven g [] w = (refl, refl)
whole_woven g (p ∷ ps) w =
    let none : p.run.len - p.run.len ≡ 0 = omega arith in (
      wanted p.run ∷ [],
      [],
      piece_runs ps,
      (record { grid = w.0.grid; start = refl; step = refl; within = omega arith; whole = tt }, none),
      refl,
      refl,
      whole_woven (rest_of g p.run.len) ps w.1,
    )

module _ (grid : GridData) where
  abbrev Among : List ℕ → Type 0
  Among ts = (t : ℕ) → Contains ts t → Contains (points grid) t

  runs_by : (run : GridData) (ps : List Piece) → IsWoven run (whole_spans ps) → run.step ≡ grid.step → Among (points run) → Each (IsRunOf grid) (piece_runs ps)
  runs_by run [] w e among = tt
  runs_by run (p ∷ ps) w e among =
      let split = span_points run (wanted p.run) w.0 in (
        record {
          lawful = w.0.grid;
          step = w.0.step ∙ e;
          among = λ t c.
              among t (subst (λ (ts : List ℕ). Contains ts t) (sym split) (Contains-append_left (points p.run) (points (rest_of run p.run.len)) t c));
        },
        runs_by (rest_of run p.run.len) ps w.1 e
            (λ t c. among t (subst (λ (ts : List ℕ). Contains ts t) (sym split) (Contains-append_right (points p.run) (points (rest_of run p.run.len)) t c))),
      )

-- a grid of one time alone has one piece
alone_pieces : (interval : ℕ) (g : GridData) → g.len ≡ 1 → piece_runs (pieces_of interval g.step (points g)) ≡ g ∷ []
alone_pieces interval g e =
    ap (λ n. piece_runs (pieces_of interval g.step (times_from g.start g.step n))) e
    ∙ (λ i. record { start = g.start; step = g.step; len = sym e i } ∷ [])

pub whole_divided : (l : Limits) (o : Open) → IsGrid o.asked.query.grid → o.asked.instant ≡ nat_eq o.asked.query.grid.step 0 → AreDivided l o [] (whole_runs l o)
whole_divided l o g alone =
    let woven = pieces_woven l.interval o.asked.query.grid g in record {
      woven = whole_woven o.asked.query.grid (pieces_in l o) woven;
      each = runs_by o.asked.query.grid o.asked.query.grid (pieces_in l o) woven refl (λ t c. c);
      values = tt;
      alone = λ e. (refl, alone_pieces l.interval o.asked.query.grid (g.alone (eqb-true o.asked.query.grid.step 0 (sym alone ∙ e))));
    }

-- ---- the parts of one run more

pub no_all_parts : (legs : ResolvedLegs) (snap : SnapData) (runs : List GridData) (parts : List Part) → runs ≡ [] → parts ≡ [] → AreAllParts legs snap runs parts
no_all_parts legs snap runs parts r e =
    subst (λ (rs : List GridData). AreAllParts legs snap rs parts) (sym r)
    (subst (AreAllParts legs snap []) (sym e)
    (record {
      many = let none : 0 ≡ 0 * leg_count (legs_data legs) = omega arith in none;
      fits = tt;
      values = λ samples stands apart i run part f g. absurd (let past = slice_get_within [] i part g in omega (arith, past));
    }))

module _ (legs : ResolvedLegs) (snap : SnapData) (runs : List GridData) (run : GridData) (parts own : List Part) (all : AreAllParts legs snap runs parts)
    (first : AreFirstParts legs snap run (leg_count (legs_data legs)) own) where
  abbrev count : ℕ
  count = leg_count (legs_data legs)

  next_values : (samples : List Row) → StandsFor snap samples → AreApart samples → AreLegValues samples legs (runs ++ run ∷ []) (parts ++ own)
  next_values samples stands apart i r part f g = by (got_append parts own i part g) where
    whole : (i / count) * count + i % count ≡ i
    whole = div-add-mod' i count

    before : i < length parts → slice_get parts i ≡ Some part → ((i / count ≡ length runs) × (run ≡ r)) ⊎ (slice_get runs (i / count) ≡ Some r)
        → IsValueOver samples (legs_data legs) (i % count) r part
    before h e (inl (last, same)) =
        absurd (let many = all.many in let product : (i / count) * count ≡ length runs * count = ap (λ k. k * count) last in let w = whole in omega (arith, h, many, product, w))
    before h e (inr there) = all.values samples stands apart i r part there e

    behind : (j : ℕ) → i ≡ length parts + j → slice_get own j ≡ Some part → ((i / count ≡ length runs) × (run ≡ r)) ⊎ (slice_get runs (i / count) ≡ Some r)
        → IsValueOver samples (legs_data legs) (i % count) r part
    behind j e h (inl (last, same)) =
        let inside : j < count = let within = slice_get_within own j part h in let many = first.many in omega (arith, within, many) in
        let place : i ≡ length runs * count + j = let many = all.many in omega (arith, e, many) in
        let leg : i % count ≡ j = ap (λ k. k % count) place ∙ mod-mul-add (length runs) count j inside in
        subst (λ (g' : GridData). IsValueOver samples (legs_data legs) (i % count) g' part) same
        (subst (λ k. IsValueOver samples (legs_data legs) k run part) (sym leg) (first.values samples stands apart j part h))
    behind j e h (inr there) =
        absurd
        (let inside : j < count = let within = slice_get_within own j part h in let many = first.many in omega (arith, within, many) in
        let place : i ≡ length runs * count + j = let many = all.many in omega (arith, e, many) in
        let leg : i / count ≡ length runs = ap (λ k. k / count) place ∙ div-mul-add (length runs) count j inside in
        let within = slice_get_within runs (i / count) r there in
        omega (arith, within, leg))

    by : ((i < length parts) × (slice_get parts i ≡ Some part)) ⊎ ((j : ℕ) × (i ≡ length parts + j) × (slice_get own j ≡ Some part))
        → IsValueOver samples (legs_data legs) (i % count) r part
    by (inl (h, e)) = before h e (got_more runs run r (i / count) f)
    by (inr (j, e, h)) = behind j e h (got_more runs run r (i / count) f)

  next_parts : AreAllParts legs snap (runs ++ run ∷ []) (parts ++ own)
  next_parts = record {
    many =
        let both = length-append parts own in
        let runs_many = length_push runs run in
        let product : length (runs ++ run ∷ []) * count ≡ (length runs + 1) * count = ap (λ k. k * count) runs_many in
        let one = one_more (length runs) count in
        let many = all.many in
        let own_many = first.many in
        omega (arith, both, product, one, many, own_many);
    fits = each_append (FitsNodes legs.nodes) parts own all.fits first.fits;
    values = next_values;
  }

-- so many runs, and one more
pub all_more : (legs : ResolvedLegs) (snap : SnapData) (runs : List GridData) (n : ℕ) (run : GridData) (parts own parts' : List Part) → n < length runs → run ≡ get_or runs n run
    → parts' ≡ parts ++ own → AreAllParts legs snap (take n runs) parts → AreFirstParts legs snap run (leg_count (legs_data legs)) own
    → AreAllParts legs snap (take (n + 1) runs) parts'
all_more legs snap runs n run parts own parts' h at e all first =
    let next : take (n + 1) runs ≡ take n runs ++ run ∷ [] = take-add n 1 runs ∙ ap (λ rs. take n runs ++ take 1 rs) (drop_next runs n run h at) in
    subst (λ (rs : List GridData). AreAllParts legs snap rs parts') (sym next)
    (subst (AreAllParts legs snap (take n runs ++ run ∷ [])) (sym e) (next_parts legs snap (take n runs) run parts own all first))

-- ---- the parts of the whole grid

whole_by : (l : Limits) (o : Open) (legs : ResolvedLegs) (snap : SnapData) (runs : List GridData) (parts : List Part) → IsLegsOf l o legs snap → AreDivided l o [] runs
    → AreAllParts legs snap runs parts → AreParts l o legs [] runs parts
whole_by l o legs snap runs parts h d all = record {
  legs_are = h.legs_are;
  lawful = h.lawful;
  evaluable = evaluable_over legs.resolved snap.labels h.bound.resolved;
  divided = d;
  many = all.many;
  fits = all.fits;
  values = all.values (store_of (rules_of l) o.log).samples h.stands h.apart;
}

pub whole_parts : (c : CoreData) (found : Option Open) (legs legs' : ResolvedLegs) (snap snap' : SnapData) (grid : GridData) (interval : ℕ) (runs' : List GridData) (g : Gathered)
    → BindsOpen c.limits found legs snap → ((o : Open) → found ≡ Some o → grid ≡ o.asked.query.grid)
    → ((o : Open) → found ≡ Some o → o.asked.instant ≡ nat_eq o.asked.query.grid.step 0) → IsGrid grid → interval ≡ c.limits.interval
    → legs' ≡ legs → snap' ≡ snap → runs' ≡ g.runs.items → arc_value g.legs ≡ legs → g.cached.items ≡ []
    → g.runs.items ≡ piece_runs (pieces_of interval grid.step (points grid)) → AreAllParts legs' snap' runs' g.parts.items → HasParts c found g
whole_parts c None legs legs' snap snap' grid interval runs' g h is alone lawful i l s r of none rs all = absurd h
whole_parts c (Some o) legs legs' snap snap' grid interval runs' g h is alone lawful i l s r of none rs all =
    let same : grid ≡ o.asked.query.grid = is o refl in
    let runs_are : g.runs.items ≡ whole_runs c.limits o = rs ∙ (λ j. piece_runs (pieces_of (i j) (same j).step (points (same j)))) in
    let parts : AreAllParts legs snap g.runs.items g.parts.items =
    subst (λ (x : ResolvedLegs). AreAllParts x snap g.runs.items g.parts.items) l
    (subst (λ (x : SnapData). AreAllParts legs' x g.runs.items g.parts.items) s
    (subst (λ (x : List GridData). AreAllParts legs' snap' x g.parts.items) r all)) in
    let divided : AreDivided c.limits o [] g.runs.items =
    subst (AreDivided c.limits o []) (sym runs_are) (whole_divided c.limits o (subst IsGrid same lawful) (alone o refl)) in
    subst (λ (x : ResolvedLegs). AreParts c.limits o x g.cached.items g.runs.items g.parts.items) (sym of)
    (subst (λ (x : List DoneCells). AreParts c.limits o legs x g.runs.items g.parts.items) (sym none)
    (whole_by c.limits o legs snap g.runs.items g.parts.items h divided parts))

pub runs_whole : (l : Limits) (o : Open) (grid : GridData) (interval : ℕ) (runs : List GridData) → grid ≡ o.asked.query.grid → interval ≡ l.interval
    → runs ≡ piece_runs (pieces_of interval grid.step (points grid)) → runs ≡ whole_runs l o
runs_whole l o grid interval runs g i e = e ∙ (λ j. piece_runs (pieces_of (i j) (g j).step (points (g j))))

pub binds_bound : (l : Limits) (found : Option Open) (legs : ResolvedLegs) (snap : SnapData) → BindsOpen l found legs snap → AreBoundOver legs snap.labels
binds_bound l None legs snap h = absurd h
binds_bound l (Some o) legs snap h = h.bound
