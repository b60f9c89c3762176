use Rattle.std.proofs.Common.{arith}
use Rattle.pf_base.proofs.Written.{fraction_in, fraction_within}
use Rattle.pf_base.proofs.number_text.write_fraction.Goals as goal

pub returns-clause-written : goal.returns-clause-written
returns-clause-written c = fraction_in c.write_six_places.new.buffer c.args.buffer.now c.without_zeros.result.now c.args.at c.args.micros c.if-micros-eq0.false c.requires.room c.write_six_places.ensures c.without_zeros.ensures

pub returns-clause-within : goal.returns-clause-within
returns-clause-within c =
    let h = fraction_within c.write_six_places.new.buffer c.args.buffer.now c.without_zeros.result.now c.args.at c.args.micros c.requires.room c.write_six_places.ensures c.without_zeros.ensures in
    (omega arith, omega arith)
