-- Canonical texts that different queries have, and queries whose range is put in: this project's own.
use Rattle.std.specs.Prelude.{◌≡◌, ◌≤◌, ℕ, List}
use Rattle.pf_base.specs.Limits.{greatest_time}
use Rattle.pf_lex.specs.CanonicalTokens.{HasTree}
use Rattle.pf_model.specs.Canonical.{canonical}
use Rattle.pf_model.specs.Resolving.{resolved}
use Rattle.pf_model.specs.Trees.{Tree, height}

-- some text, however long, derives the tree, and its times are within the limit
abbrev pub HasText : Tree → Type 0
HasText t = (text : List ℕ) × HasTree text t

-- two such trees, one of at most 64 levels, with one canonical text are one tree
abbrev pub HaveOwnTexts : Type 0
HaveOwnTexts = (t u : Tree) → HasText t → HasText u → height t ≤ 64 → canonical t ≡ canonical u → t ≡ u

-- such a tree of at most 64 levels is still one once the times of its range are put in
abbrev pub KeepTexts : Type 0
KeepTexts =
    (start end : ℕ) (t : Tree) → start ≤ greatest_time → end ≤ greatest_time → HasText t → height t ≤ 64 → HasText (resolved start end t)
