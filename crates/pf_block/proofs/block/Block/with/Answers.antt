use Rattle.std.proofs.Common.{◌≡◌, ap, ◌∙◌, ◌++◌, ◌∷◌, [], length, rules}
use Rattle.pf_block.specs.Blocks.{ascends}
use Rattle.pf_block.specs.Runs.{run_noted}
use Rattle.pf_block.proofs.Pairing.{laid_with, runs_with}
use Rattle.pf_block.proofs.block.Block.with.Goals as goal

pub invariant_of-result : goal.invariant_of-result
invariant_of-result c =
    let rs = c.self.inside.runs.items in
    let ss = c.self.inside.samples.items in
    let rows : c.len.result ≡ length c.self.inside.samples.items = search rules in
    let noted : c.note_run.new.runs.items ≡ run_noted rs (c.args.id, length ss) = c.in_ok-note_run.ensures ∙ ap (λ n. run_noted rs (c.args.id, n)) rows in
    let fits = ap (λ l. ascends (l ++ (c.args.id, c.args.sample) ∷ [])) c.self.view_is ∙ c.requires in (
      runs_with rs ss c.args.id c.args.sample c.self.invariant.0 c.note_run.new.runs.items c.push.new.self.items noted c.in_ok-push.ensures.items fits,
      ap ascends (laid_with rs ss c.args.id c.args.sample c.self.invariant.0 c.note_run.new.runs.items c.push.new.self.items noted c.in_ok-push.ensures.items) ∙ fits,
    )

pub returns : goal.returns
returns c =
    let rs = c.self.inside.runs.items in
    let ss = c.self.inside.samples.items in
    let rows : c.len.result ≡ length c.self.inside.samples.items = search rules in
    let noted : c.note_run.new.runs.items ≡ run_noted rs (c.args.id, length ss) = c.in_ok-note_run.ensures ∙ ap (λ n. run_noted rs (c.args.id, n)) rows in
    laid_with rs ss c.args.id c.args.sample c.self.invariant.0 c.note_run.new.runs.items c.push.new.self.items noted c.in_ok-push.ensures.items
    ∙ ap (λ l. l ++ (c.args.id, c.args.sample) ∷ []) c.self.view_is
