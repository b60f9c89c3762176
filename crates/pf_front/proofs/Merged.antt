-- The cells of runs, one run after another.
use Rattle.std.proofs.Common.{◌≡◌, ◌∙◌, ℕ, zero, suc, ◌+◌, ◌*◌, ◌<◌, ◌≤◌, Some, List, [], ◌∷◌, ◌++◌, append_assoc, append-nil, drop, take, length, get_or, refl, sym, ap, subst, arith}
use Rattle.std.specs.List.{slice_get}
use Rattle.std.proofs.lemmas.List.{drop-drop}
use Rattle.std.proofs.lemmas.Option.{slice_get-get_or}
use Rattle.pf_base.specs.GridLists.{GridData}
use Rattle.pf_base.specs.Grids.{points}
use Rattle.pf_base.specs.declared.plain.Row.{Row}
use Rattle.pf_columns.specs.Runs.{points_over}
use Rattle.pf_extent.specs.Done.{AreWhole}
use Rattle.pf_extent.specs.declared.done.DoneCells.{DoneCells}
use Rattle.pf_front.proofs.Failures.{behind_none, drop_next, fails, front_some, none_fails}
use Rattle.pf_front.proofs.LegParts.{one_more, own_values}
use Rattle.pf_front.proofs.Spans.{each_append}
use Rattle.pf_front.specs.Settling.{AreLegValues, AreOfLegs}
use Rattle.pf_front.specs.Spans.{AreAllTrue, AreCellsAt, AreTrueCells, runs_in}
use Rattle.pf_model.specs.Direct.{Failure}
use Rattle.pf_shard.specs.Lawful.{ResolvedLegs, leg_count, legs_data}
use Rattle.pf_shard.specs.declared.parts.Part.{Part}

-- the cells of so many runs, without an error so far
pub record AreMerged (legs : ResolvedLegs) (runs : List GridData) (parts : List Part) (n : ℕ) (left : List Part) (ds : List DoneCells) : Type 0 where
  pub left_is : left ≡ drop (n * leg_count (legs_data legs)) parts
  pub runs_are : runs_in ds ++ drop n runs ≡ runs
  pub whole : AreWhole ds
  pub values : (samples : List Row) → AreLegValues samples legs runs parts
      → AreAllTrue samples legs.resolved.query ds × (fails samples legs.resolved.query (points_over runs) ≡ fails samples legs.resolved.query (points_over (drop n runs)))

pub merged_none : (legs : ResolvedLegs) (runs : List GridData) (parts left : List Part) (ds : List DoneCells) → left ≡ parts → ds ≡ [] → AreMerged legs runs parts 0 left ds
merged_none legs runs parts left ds e d =
    subst (AreMerged legs runs parts 0 left) (sym d)
    (record {
      left_is = e ∙ ap (λ n. drop n parts) (let none : 0 ≡ 0 * leg_count (legs_data legs) = omega arith in none);
      runs_are = refl;
      whole = tt;
      values = λ samples all. (tt, refl);
    })

runs_append : (ds es : List DoneCells) → runs_in (ds ++ es) ≡ runs_in ds ++ runs_in es
runs_append [] es = refl
runs_append (d ∷ ds) es = ap (λ rs. d.run ∷ rs) (runs_append ds es)

module _ (legs : ResolvedLegs) (runs : List GridData) (parts left own behind : List Part) (ds : List DoneCells) (n : ℕ) (run : GridData) (m : AreMerged legs runs parts n left ds)
    (within : n < length runs) (at : run ≡ get_or runs n run) (taken : own ≡ take (leg_count (legs_data legs)) left) where
  here : slice_get runs n ≡ Some run
  here = slice_get-get_or runs n run within ∙ ap (λ (r : GridData). Some r) (sym at)

  pub own_legs : (samples : List Row) → AreLegValues samples legs runs parts → AreOfLegs samples legs run own
  own_legs samples all = own_values samples legs runs parts own n run (taken ∙ ap (take (leg_count (legs_data legs))) m.left_is) here all

  next_runs : drop n runs ≡ run ∷ drop (n + 1) runs
  next_runs = drop_next runs n run within at

  pub merged_more : (d : DoneCells) (ds' : List DoneCells) → behind ≡ drop (leg_count (legs_data legs)) left → d.run ≡ run → length d.cells ≡ run.len → ds' ≡ ds ++ d ∷ []
      → ((samples : List Row) → AreOfLegs samples legs run own → AreCellsAt samples legs.resolved.query (points run) d.cells)
      → AreMerged legs runs parts (n + 1) behind ds'
  merged_more d ds' rest is many e values =
      subst (AreMerged legs runs parts (n + 1) behind) (sym e)
      (record {
        left_is = rest ∙ ap (drop (leg_count (legs_data legs))) m.left_is ∙ drop-drop (leg_count (legs_data legs)) (n * leg_count (legs_data legs)) parts
            ∙ ap (λ (k : ℕ). drop k parts) (sym (one_more n (leg_count (legs_data legs))));
        runs_are =
            ap (λ rs. rs ++ drop (n + 1) runs) (runs_append ds (d ∷ []))
            ∙ append_assoc (runs_in ds) (d.run ∷ []) (drop (n + 1) runs)
            ∙ ap (λ rs. runs_in ds ++ rs) (ap (λ (r : GridData). r ∷ drop (n + 1) runs) is ∙ sym next_runs)
            ∙ m.runs_are;
        whole = each_append (λ x. length x.cells ≡ x.run.len) ds (d ∷ []) m.whole (many ∙ ap (λ (r : GridData). r.len) (sym is), tt);
        values = λ samples all.
            let old = m.values samples all in
            let new = values samples (own_legs samples all) in (
              each_append (AreTrueCells samples legs.resolved.query) ds (d ∷ []) old.0
                  (subst (λ (r : GridData). AreCellsAt samples legs.resolved.query (points r) d.cells) (sym is) new, tt),
              old.1 ∙ ap (λ rs. fails samples legs.resolved.query (points_over rs)) next_runs
                  ∙ behind_none samples legs.resolved.query (points run) (points_over (drop (n + 1) runs)) (none_fails samples legs.resolved.query (points run) d.cells new),
            );
      })

  pub merged_fails : (f : Failure) → ((samples : List Row) → AreOfLegs samples legs run own → fails samples legs.resolved.query (points run) ≡ Some f)
      → (samples : List Row) → AreLegValues samples legs runs parts → fails samples legs.resolved.query (points_over runs) ≡ Some f
  merged_fails f values samples all =
      (m.values samples all).1 ∙ ap (λ rs. fails samples legs.resolved.query (points_over rs)) next_runs
      ∙ front_some samples legs.resolved.query (points run) (points_over (drop (n + 1) runs)) f (values samples (own_legs samples all))

nothing_left : {X : Type 0} (n : ℕ) (xs : List X) → length xs ≤ n → drop n xs ≡ []
nothing_left zero [] h = refl
nothing_left zero (x ∷ xs) h = absurd (omega (arith, h))
nothing_left (suc n) [] h = refl
nothing_left (suc n) (x ∷ xs) h = nothing_left n xs (omega (arith, h))

pub merged_all : (legs : ResolvedLegs) (runs : List GridData) (parts left : List Part) (ds : List DoneCells) (n : ℕ) → AreMerged legs runs parts n left ds → length runs ≤ n
    → runs_in ds ≡ runs
merged_all legs runs parts left ds n m h = sym (append-nil (runs_in ds)) ∙ ap (λ rs. runs_in ds ++ rs) (sym (nothing_left n runs h)) ∙ m.runs_are
