use Rattle.std.proofs.Common.{◌≡◌, ◌<◌, true, length, refl, sym, ap, ◌∙◌, arith}
use Rattle.std.specs.Bool.{beq}
use Rattle.std.specs.List.{All}
use Rattle.pf_index.specs.Sieving.{asked, holds_of}
use Rattle.pf_index.proofs.Sieved.{held_already, left_within, listed_at, none_asked, passed_over, sieved_more}
use Rattle.pf_model.specs.declared.expr.Matcher.{Matcher}
use Rattle.std.proofs.Common.{get_or, take, subst}
use Rattle.pf_index.proofs.sieving.sieve_by.Goals as goal

pub loop-i-init : goal.loop-i-init
loop-i-init c = record { same = refl; sieved = none_asked c.args.snap.now.labels c.args.ids.now.items }

pub sieve-requires-clause-within : goal.sieve-requires-clause-within
sieve-requires-clause-within c =
    left_within (λ id. id < length c.args.snap.now.labels) (asked c.args.compares (take c.loop-i.i c.args.matchers.now)) c.args.snap.now.labels c.args.ids.now.items c.loop-i.ids.items
    c.loop-i.invariant.sieved c.requires.within

pub loop-i-preserved : goal.loop-i-preserved
loop-i-preserved c =
    let ms = c.args.matchers.now in
    let ls = c.args.snap.now.labels in
    let ids = c.args.ids.now.items in
    let m = c.matcher-matcher.result.now in
    let i = c.loop-i.i in
    let h : i < length ms = omega (arith, c.count-i-end.ensures, c.loop-i-test.true) in
    elim c.if-ne.branch [
      | goal.then-ne+then-is_compared-compares+in_ok-sieve w ↦ rw (w.asker-is, w.ids-is) (record {
        same = w.in_ok-sieve.ensures.same ∙ c.loop-i.invariant.same;
        sieved = sieved_more ls ms i m c.args.compares ids c.loop-i.ids.items h (c.matcher-matcher.ensures m) c.loop-i.invariant.sieved w.sieve.new.ids.items
            (ap (λ b. beq b c.args.compares) (sym w.is_compared.ensures) ∙ w.if-is_compared-compares.true) w.in_ok-sieve.ensures.held;
      })
      | goal.else-ne w ↦ rw (w.asker-is, w.ids-is) (record {
        same = c.loop-i.invariant.same;
        sieved = elim w.else-ne.branch [
          | goal.else-ne-via-then-ne+else-is_compared-compares u ↦
              passed_over ls ms i m c.args.compares ids c.loop-i.ids.items h (c.matcher-matcher.ensures m) c.loop-i.invariant.sieved
              (ap (λ b. beq b c.args.compares) (sym u.is_compared.ensures) ∙ u.if-is_compared-compares.false)
          | goal.else-ne-via-else-ne u ↦
              held_already ls ms i m c.args.compares ids c.loop-i.ids.items h (c.matcher-matcher.ensures m) c.loop-i.invariant.sieved
              (subst (λ x. All (λ id. holds_of x ls id ≡ true) ids) (sym (c.matcher-matcher.ensures m))
              (listed_at c.args.listed i (λ n. (d : Matcher) → All (λ id. holds_of (get_or ms n d) ls id ≡ true) ids) (sym c.ne.ensures ∙ u.if-ne.false) c.requires.listed m))
        ];
      })
    ]
