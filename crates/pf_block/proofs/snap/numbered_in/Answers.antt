use Rattle.std.proofs.Common.{◌≡◌, ◌+◌, ◌++◌, ◌∷◌, [], length, sym, ap, ◌∙◌, arith}
use Rattle.std.proofs.lemmas.Grind.{common_steps}
use Rattle.std.proofs.lemmas.List.{length-append}
use Rattle.pf_block.proofs.Joining.{id_within}
use Rattle.pf_block.proofs.Numbering.{first_id, first_labels, more_behind, more_id, more_labels, next_id, next_labels}
use Rattle.pf_block.proofs.snap.numbered_in.Goals as goal

pub returns-in-Some : goal.returns-in-Some
returns-in-Some c =
    let found = sym c.in-Some.is ∙ c.find.ensures in
    record {
      index = first_labels c.args.index.now c.args.new c.args.labels.now c.in-Some.id found;
      id = first_id c.args.index.now c.args.new c.args.labels.now c.in-Some.id found;
      behind = c.requires;
    }

pub overflow_add-result : goal.overflow_add-result
overflow_add-result c =
    let w = id_within c.args.labels.now c.args.new c.in-Some-find.id (sym c.in-Some-find.is ∙ c.find-2.ensures) in
    let n = length-append c.args.index.now c.args.new in
    omega (arith, w, n, c.count-first.ensures.value, c.requires.few)

pub returns-in-Some-find : goal.returns-in-Some-find
returns-in-Some-find c =
    let none = sym c.find.ensures ∙ c.in_default.is in
    let found = sym c.in-Some-find.is ∙ c.find-2.ensures in
    record {
      index = next_labels c.args.index.now c.args.new c.args.labels.now c.in-Some-find.id none found;
      id = next_id c.args.index.now c.args.new c.args.labels.now c.in-Some-find.id _ none found (ap (λ n. n + c.in-Some-find.id) c.count-first.ensures.value);
      behind = c.requires;
    }

pub returns : goal.returns
returns c =
    let none = sym c.find.ensures ∙ c.in_default.is in
    let new = sym c.find-2.ensures ∙ c.in_default-find.is in
    let more : c.in_ok-with.field-0 ≡ c.args.new ++ c.args.labels.now ∷ [] = first_of (cc (c.in_ok-with.ensures.value, c.in_ok-clone.ensures), grind (arith, common_steps)) in
    record {
      index = more_labels c.args.index.now c.args.new c.args.labels.now c.in_ok-with.field-0 none new more;
      id = more_id c.args.index.now c.args.new c.args.labels.now c.in_ok-with.field-0 none new more _ (λ i. c.count-first.ensures.value i + c.count-count.ensures.value i);
      behind = more_behind c.args.index.now c.args.new c.args.labels.now c.in_ok-with.field-0 none new more c.requires
          (omega (arith, c.count-first.ensures.value, c.count-count.ensures.value, c.if-count-first.false));
    }
