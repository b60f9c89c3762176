use Rattle.std.proofs.Common.{rules, ◌≡◌, length, sym, ◌∙◌}
use Rattle.pf_columns.proofs.JoinedColumns.{less_by_pop}
use Rattle.pf_columns.proofs.joining.next_of.Goals as goal

pub returns-in-Less-clause-next : goal.returns-in-Less-clause-next
returns-in-Less-clause-next c =
    let many : c.args.first.now.len ≡ length c.args.first.now.items = search rules in
    less_by_pop c.args.len c.pop_front.result c.args.first.now.items c.args.second.now.items c.pop_front.new.self.items c.args.first.now.len c.pop_front.new.self.len many
    (sym c.in-Less.is ∙ c.fronts_cmp.ensures) c.pop_front.ensures.items c.pop_front.ensures.cases
