use Rattle.pf_base.proofs.ReadBack.{read_back_at}
use Rattle.pf_base.proofs.number_text.write_value.Goals as goal

pub returns-clause-read_back : goal.returns-clause-read_back
returns-clause-read_back c = read_back_at c.micros-micros.result c.args.value c.micros-micros.ensures.value c.micros-micros.ensures.within
