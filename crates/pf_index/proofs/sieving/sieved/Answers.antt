use Rattle.std.proofs.Common.{◌<◌, true, false, length, sym, ap, arith, ◌∙◌}
use Rattle.pf_index.specs.Listing.{accepted_in}
use Rattle.pf_index.specs.Sieving.{asked}
use Rattle.pf_index.proofs.Sieved.{all_asked, left_within, listed_left, only_listed}
use Rattle.pf_index.proofs.sieving.sieved.Goals as goal

pub sieve_by-requires-2-clause-within : goal.sieve_by-requires-2-clause-within
sieve_by-requires-2-clause-within c =
    left_within (λ id. id < length c.args.snap.now.labels) (asked true c.args.matchers.now) c.args.snap.now.labels c.args.ids.items c.sieve_by.new.ids.items c.in_ok-sieve_by.ensures.sieved c.requires.within

pub sieve_by-requires-2-clause-listed : goal.sieve_by-requires-2-clause-listed
sieve_by-requires-2-clause-listed c =
    listed_left c.args.listed c.args.matchers.now c.args.snap.now.labels (asked true c.args.matchers.now) c.args.ids.items c.sieve_by.new.ids.items c.in_ok-sieve_by.ensures.sieved c.requires.listed

pub returns-then-is_some : goal.returns-then-is_some
returns-then-is_some c =
    only_listed c.args.listed c.args.matchers.now c.args.snap.now.labels c.args.ids.items (sym c.is_some.ensures ∙ c.if-is_some.true)
    (omega (arith, c.count.ensures, c.if-count-eq1.true)) c.requires.listed

pub returns : goal.returns
returns c =
    let ms = c.args.matchers.now in
    let ls = c.args.snap.now.labels in
    c.in_ok-sieve_by-2.ensures.sieved ∙ ap (accepted_in (asked false ms) ls) c.in_ok-sieve_by.ensures.sieved ∙ all_asked ls ms c.args.ids.items
