use Rattle.std.proofs.Common.{rules, ◌≡◌, ℕ, List, subst}
use Rattle.pf_client.specs.Queries.{IsReadAs}
use Rattle.pf_client.proofs.TextReads.{read_before, read_new, right_new}
use Rattle.pf_client.proofs.queries.read_one.Goals as goal

pub returns-in-Some-clause-read : goal.returns-in-Some-clause-read
returns-in-Some-clause-read c = read_before c.args.queries.now c.args.text.now c.in-Some._known.now (search rules)

pub returns-clause-read : goal.returns-clause-read
returns-clause-read c = read_new c.args.queries.now c.insert.new.queries c.args.text.now c.in_ok-read.read (search rules) (search rules) (search rules)

pub returns-clause-right : goal.returns-clause-right
returns-clause-right c refs agrees right =
    let same : c.as_str-2.result.now ≡ c.args.text.now = search rules in
    right_new refs c.args.queries.now c.insert.new.queries c.args.text.now c.in_ok-read.read right
    (subst (λ (t : List ℕ). IsReadAs refs t c.in_ok-read.read) same (c.in_ok-read.ensures.right refs agrees)) (search rules) (search rules)
