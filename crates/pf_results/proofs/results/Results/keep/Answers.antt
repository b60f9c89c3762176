use Rattle.std.proofs.Common.{rules, subst, sym}
use Rattle.std.specs.Prelude.{IfSome}
use Rattle.lru.specs.LruCache.{LruCache}
use Rattle.pf_extent.specs.Steps.{Extents}
use Rattle.pf_extent.specs.declared.key.Key.{Key}
use Rattle.pf_model.specs.Trees.{tree_of}
use Rattle.pf_results.specs.Entries.{kept_under}
use Rattle.pf_results.specs.Keeping.{KeepsOthers}
use Rattle.pf_results.specs.Truth.{AreTrue}
use Rattle.pf_results.proofs.Growing.{some_true}
use Rattle.pf_results.proofs.Keys.{put_true, true_under}
use Rattle.pf_results.proofs.results.Results.keep.Goals as goal

pub returns-in_err-set-clause-kept : goal.returns-in_err-set-clause-kept
returns-in_err-set-clause-kept c = λ log_rules interval logs h w text e.
    subst (λ (d : LruCache Key Extents). AreTrue log_rules interval logs d.entries) (sym c.in_err-set.ensures.err) h

pub returns-clause-kept : goal.returns-clause-kept
returns-clause-kept c = λ log_rules interval logs h w text e.
    let known : IfSome c.in_ok-list.field-0.list (KeepsOthers (tree_of c.args.expr.now) c.args.asker.now c.args.run c.args.cells.now (kept_under c.args.key.now c.args.self.now)) =
    search rules in
    subst (λ (d : LruCache Key Extents). AreTrue log_rules interval logs d.entries) (sym c.in_ok-set.ensures.ok)
    (put_true log_rules interval logs c.args.self.now c.args.key.now c.in_ok-list.field-0.list h
    (some_true c.have_own_texts.ensures log_rules interval (logs c.args.key.now.tenant) c.args.key.now c.args.asker.now (tree_of c.args.expr.now) c.args.run c.args.cells.now
    w c.requires.query.tall text e (kept_under c.args.key.now c.args.self.now) c.in_ok-list.field-0.list (true_under log_rules interval logs c.args.self.now c.args.key.now h) known))
