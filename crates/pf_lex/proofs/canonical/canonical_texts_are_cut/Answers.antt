use Rattle.pf_lex.proofs.CanonicalTexts.{canonical_is_cut}
use Rattle.pf_lex.proofs.Fits.{canonical_fits}
use Rattle.pf_lex.proofs.Printable.{can_be_printed}
use Rattle.pf_lex.proofs.canonical.canonical_texts_are_cut.Goals as goal

pub returns-clause-cut : goal.returns-clause-cut
returns-clause-cut c = canonical_is_cut

pub returns-clause-fit : goal.returns-clause-fit
returns-clause-fit c = canonical_fits

pub returns-clause-printable : goal.returns-clause-printable
returns-clause-printable c = can_be_printed
