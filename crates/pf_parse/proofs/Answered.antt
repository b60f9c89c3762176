-- The reading of a list of tokens answers what is held of its query exactly where it has one, and else the place of the token
-- that is unexpected.
use Rattle.std.proofs.Common.{◌≡◌, ◌∙◌, sym, ℕ, suc, List, ◌++◌, take, Option, Some, None, Ok, Err}
use Rattle.pf_model.specs.Grammar.{Written, IsDerived, Begins, IsUnexpected}
use Rattle.pf_model.specs.Tokens.{Sort}
use Rattle.pf_parse.specs.Held.{Held}
use Rattle.pf_parse.specs.Reading.{run, start}
use Rattle.pf_parse.proofs.Derived.{derived_read}
use Rattle.pf_parse.proofs.Goes.{value, lexemes}
use Rattle.pf_parse.proofs.ReadOf.{read_of}
use Rattle.pf_parse.proofs.Spelled.{read_derived}
use Rattle.pf_parse.proofs.Verdicts.{verdict}

pub record Read (us : List Sort) (a : Held) : Type 0 where
  pub written : Written
  pub derived : IsDerived us written
  pub is : read_of written ≡ a

some_none : {A : Type 0} (a : Held) → ◌≡◌ {A = Option Held} (Some a) None → A
some_none a h = absurd (never h)
  where
    never : ◌≡◌ {A = Option Held} (Some a) None → ⊥
    never h = cc

pub read : (us : List Sort) (a : Held) → run start (lexemes us) ≡ Ok a → Read us a
read us a h =
    let d = read_derived us a ((verdict us start).read a h) in
    record { written = d.written; derived = record { fits = d.fits; lawful = d.lawful }; is = d.is }

begins_of : (us vs : List Sort) (a : Held) → value start (lexemes (us ++ vs)) ≡ Some a → Begins us
begins_of us vs a h =
    let d = read_derived (us ++ vs) a h in
    record { further = vs; written = d.written; derived = record { fits = d.fits; lawful = d.lawful } }

pub unexpected : (us : List Sort) (n : ℕ) → run start (lexemes us) ≡ Err n → IsUnexpected us n
unexpected us n h =
    let f = (verdict us start).faulty n h in
    record {
      within = f.within;
      begins = begins_of (take n us) f.further f.begins.held f.begins.is;
      unlawful = λ l b. some_none (read_of b.written)
          (sym (derived_read b.written (take (suc n) us ++ b.further) b.derived.lawful b.derived.fits) ∙ f.unlawful l b.further);
      unfinished = λ w d. some_none (read_of w) (sym (derived_read w us d.lawful d.fits) ∙ f.unfinished);
    }
