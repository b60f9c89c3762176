use Rattle.std.proofs.Common.{◌∙◌, sym}
use Rattle.pf_base.specs.declared.number.Read.TheVariants.{Number}
use Rattle.pf_lex.proofs.Numbers.{number_read, read_is, reads_number}
use Rattle.pf_lex.proofs.number.number_of.Goals as goal

pub unreachable-requires : goal.unreachable-requires
unreachable-requires c = let r = number_read c.args.bytes.now c.requires.form c.requires.short in c.in_default.not-Ok (Number r.micros) ((c.read_value.ensures (Number r.micros)).1 r.reads)

pub unreachable-requires-in_default-read : goal.unreachable-requires-in_default-read
unreachable-requires-in_default-read c =
    let r = number_read c.args.bytes.now c.requires.form c.requires.short in
    c.in_default-read.not-Number r.micros (read_is c.in-Ok.read (Number r.micros) (sym c.in-Ok.is ∙ (c.read_value.ensures (Number r.micros)).1 r.reads))

pub returns : goal.returns
returns c =
    let r = number_read c.args.bytes.now c.requires.form c.requires.short in
    reads_number c.args.bytes.now r c.in-Number.value (sym c.in-Number.is ∙ read_is c.in-Ok.read (Number r.micros) (sym c.in-Ok.is ∙ (c.read_value.ensures (Number r.micros)).1 r.reads))
