-- Where a text may not end.
use Rattle.std.proofs.Common.{◌≡◌, refl, ℕ, List, Option, None}
use Rattle.pf_parse.specs.declared.mode.Aggregating.{Aggregating}
use Rattle.pf_parse.specs.declared.mode.Labelling.TheVariants as labelling
use Rattle.pf_parse.specs.declared.mode.Mode.{Mode as Shown}
use Rattle.pf_parse.specs.declared.mode.Mode.TheVariants as shown
use Rattle.pf_parse.specs.declared.mode.ModifierDue.TheVariants as modifier_due
use Rattle.pf_parse.specs.declared.mode.Modifying.{Modifying}
use Rattle.pf_parse.specs.declared.mode.Operating.TheVariants as operating
use Rattle.pf_parse.specs.declared.mode.Ranging.TheVariants as ranging
use Rattle.pf_parse.specs.declared.mode.SelectorDue.TheVariants as selector_due
use Rattle.pf_parse.specs.Held.{Held}
use Rattle.pf_parse.specs.Reading.{Frame, ends}
use Rattle.pf_parse.specs.Stacks.{mode_of}

pub never_ends : (m : Shown) (k : List Frame) → ((x : List ℕ) → m ≡ shown.Named x → ⊥)
    → ((x : Modifying) → m ≡ shown.Modified x → ⊥) → ((x : Held) → m ≡ shown.Whole x → ⊥)
    → ((x : Aggregating) → m ≡ shown.Aggregating x → ⊥) → ◌≡◌ {A = Option Held} None (ends (mode_of m) k)
never_ends (shown.Named n) k a b c d = absurd (a n refl)
never_ends (shown.Modified n) k a b c d = absurd (b n refl)
never_ends (shown.Whole n) k a b c d = absurd (c n refl)
never_ends (shown.Aggregating n) k a b c d = absurd (d n refl)
never_ends shown.Due k a b c d = refl
never_ends (shown.FirstDue f) k a b c d = refl
never_ends (shown.Selecting s selector_due.Label) k a b c d = refl
never_ends (shown.Selecting s (selector_due.Sign l)) k a b c d = refl
never_ends (shown.Selecting s (selector_due.Text l m)) k a b c d = refl
never_ends (shown.Selecting s selector_due.Comma) k a b c d = refl
never_ends (shown.Modifying m modifier_due.Offset) k a b c d = refl
never_ends (shown.Modifying m modifier_due.MinusOffset) k a b c d = refl
never_ends (shown.Modifying m modifier_due.Time) k a b c d = refl
never_ends (shown.Modifying m (modifier_due.SignedTime minus)) k a b c d = refl
never_ends (shown.Modifying m (modifier_due.Open at)) k a b c d = refl
never_ends (shown.Modifying m (modifier_due.Close at)) k a b c d = refl
never_ends (shown.Ranging (ranging.RangeDue x)) k a b c d = refl
never_ends (shown.Ranging (ranging.Range x y)) k a b c d = refl
never_ends (shown.Ranging (ranging.ResolutionDue x y)) k a b c d = refl
never_ends (shown.Ranging (ranging.Resolution x y z)) k a b c d = refl
never_ends (shown.Operating (operating.Operated x y)) k a b c d = refl
never_ends (shown.Operating (operating.Keyed x)) k a b c d = refl
never_ends (shown.Operating (operating.Grouped x)) k a b c d = refl
never_ends (shown.Labelling (labelling.BracketDue x)) k a b c d = refl
never_ends (shown.Labelling (labelling.LabelDue x y)) k a b c d = refl
never_ends (shown.Labelling (labelling.CommaDue x y)) k a b c d = refl
