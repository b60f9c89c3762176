use Rattle.std.proofs.Common.{rules, refl}
use Rattle.pf_core.specs.declared.state.State.{State}
use Rattle.pf_core.proofs.Begun.{begun_core, begun_state}
use Rattle.pf_core.proofs.state.State.new.Goals as goal

pub returns-clause-core : goal.returns-clause-core
returns-clause-core c =
    let s : State = record {
      alloc = c.args.alloc;
      limits = c.args.limits;
      tenants = c.new.result;
      queries = c.new-2.result;
      reserved = 0;
      journal = c.new-3.result;
      table = c.in_ok-new.field-0;
      failed = c.in_ok-vec.field-0;
      total = 0;
      results = c.in_ok-open.field-0;
    } in
    begun_core s c.args.limits refl c.new.ensures c.new-3.ensures.items c.in_ok-new.ensures.empty
    (c.in_ok-vec.ensures.items_if_clones_equal (λ y e. search rules)) c.in_ok-open.ensures

pub returns-clause-state : goal.returns-clause-state
returns-clause-state c =
    begun_state _ c.requires c.new.ensures (λ place. search rules) refl c.new-3.ensures.items c.in_ok-new.ensures.empty c.in_ok-new.ensures.table
    (c.in_ok-vec.ensures.items_if_clones_equal (λ y e. search rules)) refl c.in_ok-open.ensures
