-- The claim, by what was to be written and what was written of it.
use Rattle.std.proofs.Common.{rules, refl}
use Rattle.pf_top.specs.Correct.{starved, unwritten, written}
use Rattle.pf_top.proofs.OutputLaws.{front_on, part_map, whole_on}
use Rattle.pf_top.proofs.driver.run_within.Goals as goal

pub returns-in-Ok-put_all-clause-claim : goal.returns-in-Ok-put_all-clause-claim
returns-in-Ok-put_all-clause-claim g c =
    let o = g.O.Sink in
    let p = c.in-Ok.ensures.output in
    written (search rules)
    (p.0, (search (rules, p), whole_on (o.told c.args.out.now) (o.told c.run_words.new.out) (o.told c.put_all.new.out) p.0 c.in-Ok.output.text.items p.1.1 (search rules)))

pub returns-in-Err-clause-claim : goal.returns-in-Err-clause-claim
returns-in-Err-clause-claim g c =
    let o = g.O.Sink in
    let p = c.in-Ok.ensures.output in
    unwritten refl (search rules)
    (p.0, ((c.in-Ok.output.status, search (rules, p)), front_on (o.told c.args.out.now) (o.told c.run_words.new.out) (o.told c.put_all.new.out) p.0 c.in-Ok.output.text.items p.1.1 (search rules)))

pub returns-in-Err-WriteFault-clause-claim : goal.returns-in-Err-WriteFault-clause-claim
returns-in-Err-WriteFault-clause-claim g c =
    let o = g.O.Sink in
    unwritten refl (search rules) (part_map _ _ (o.told c.args.out.now) (o.told c.run_words.new.out) (λ text s. (6, s)) (search rules))

pub returns-in-Err-OutOfMemory-clause-claim : goal.returns-in-Err-OutOfMemory-clause-claim
returns-in-Err-OutOfMemory-clause-claim g c = starved refl (search rules) (search rules)
