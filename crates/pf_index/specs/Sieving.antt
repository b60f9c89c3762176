-- What a matcher says of series by their values of its label, and matchers that sieve series one after another. This
-- project's own.
use Rattle.std.specs.Prelude.{◌≡◌, ℕ, Bool, Option, None, Some, List, [], filter, slice_index_or}
use Rattle.std.specs.Bool.{beq}
use Rattle.pf_base.specs.LabelSets.{Pairs, value_of}
use Rattle.pf_model.specs.declared.expr.Matcher.{Matcher}
use Rattle.pf_model.specs.Selection.{holds, is_compared}
use Rattle.pf_index.specs.Listing.{labels_at}

-- a matcher holds of a series
abbrev pub holds_of : Matcher → List Pairs → ℕ → Bool
holds_of m ls id = holds m.sign (value_of (labels_at ls id) m.label) m.text

-- those of some series of which a matcher holds
abbrev pub held_in : Matcher → List Pairs → List ℕ → List ℕ
held_in m ls ids = filter (holds_of m ls) ids

-- the matchers that compare texts, or those that ask patterns
abbrev pub asked : Bool → List Matcher → List Matcher
asked compares ms = filter (λ m. beq (is_compared m.sign m.text) compares) ms

-- what is known of a matcher: what it says of some series, by id, and of a series without its label
pub record AreKnown (m : Matcher) (ls : List Pairs) (known : List (Option Bool)) (without : Bool) : Type 0 where
  pub series : (k : ℕ) (b : Bool) → slice_index_or known k None ≡ Some b → holds_of m ls k ≡ b
  pub others : without ≡ holds m.sign [] m.text
