use Rattle.std.proofs.Common.{arith}
use Rattle.pf_base.proofs.DigitCounts.{length_seven}
use Rattle.pf_base.proofs.Written.{point_in}
use Rattle.pf_base.proofs.number_text.write_six_places.Goals as goal

pub write_digits-requires : goal.write_digits-requires
write_digits-requires c = (omega (arith, length_seven c.args.micros c.requires.micros), c.requires.room)

pub returns : goal.returns
returns c = point_in c.write_digits.new.buf c.args.buffer.now c.args.at c.write_digits.result c.args.micros c.requires.micros c.requires.room
    c.write_digits.ensures.start c.write_digits.ensures.written c.write_digits.ensures.before
