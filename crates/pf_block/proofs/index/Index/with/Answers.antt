use Rattle.std.proofs.Common.{◌≡◌, ◌∷◌, [], None, true, length, sym, ap, ◌∙◌, subst, arith, rules}
use Rattle.std.proofs.lemmas.Grind.{common_steps}
use Rattle.std.proofs.lemmas.List.{length-append}
use Rattle.pf_block.specs.SeriesIds.{id_of}
use Rattle.pf_block.specs.Snaps.{are_apart}
use Rattle.pf_block.specs.Indexes.{IsIndex, listed}
use Rattle.pf_block.proofs.Ids.{found_push, listed_push, apart_push}
use Rattle.pf_base.specs.LabelSets.{IsLabels}
use Rattle.pf_block.proofs.LabelOrdering.{lawful_push, placed_push}
use Rattle.pf_block.proofs.index.Index.with.Goals as goal

pub invariant_of-result : goal.invariant_of-result
invariant_of-result c =
    let ls = c.self.inside.labels.items in
    let l = c.args.labels in
    let none : id_of l ls ≡ None = ap (id_of l) c.self.view_is ∙ c.requires in
    let n : c.len-id.result ≡ length ls = search rules in
    subst (λ x. IsIndex x c.insert.new.self c.note_all.new.names) (sym c.in_ok-push.ensures.items) (record {
      found = found_push l c.in_ok-clone.field-0 ls c.len-id.result c.self.inside.ids c.insert.new.self c.in_ok-clone.ensures none n c.self.invariant.found c.in_ok-insert.ensures.updates.0;
      postings = λ q r. listed_push q r ls l c.len-id.result (listed c.self.inside.names q r) (listed c.note_all.new.names q r) n (c.self.invariant.postings q r) (c.in_ok-note_all.ensures.listed q r);
      apart = apart_push ls l c.self.invariant.apart none;
      few = omega (arith, length-append ls (l ∷ []));
      lawful = lawful_push IsLabels ls l c.self.invariant.lawful c.note_all.ensures.lawful;
      placed = placed_push l c.in_ok-clone.field-0 ls c.len-id.result c.self.inside.ids c.insert.new.self c.in_ok-clone.ensures n (c.self.invariant.found l ∙ none) c.self.invariant.placed c.in_ok-insert.ensures.entries;
    })

pub returns-clause-apart : goal.returns-clause-apart
returns-clause-apart c =
    let ls = c.self.inside.labels.items in
    let none : id_of c.args.labels ls ≡ None = ap (id_of c.args.labels) c.self.view_is ∙ c.requires in
    subst (λ x. are_apart x ≡ true) (sym c.in_ok-push.ensures.items) (apart_push ls c.args.labels c.self.invariant.apart none)

pub returns-clause-value : goal.returns-clause-value
returns-clause-value c = grind (arith, common_steps)

pub returns-clause-few : goal.returns-clause-few
returns-clause-few c = grind (arith, common_steps)
