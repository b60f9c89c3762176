-- Plain expressions over the series of a shard, and where their node stands: this project's own.
use Rattle.std.specs.Prelude.{◌≡◌, ◌+◌, ℕ, Bool, true, false, cond, Some, List, [], length}
use Rattle.pf_model.specs.declared.expr.Matcher.{Matcher}
use Rattle.pf_model.specs.Built.{is_evaluated}
use Rattle.pf_model.specs.Lists.{at}
use Rattle.pf_model.specs.Sharding.{is_literal, is_plain}
use Rattle.pf_model.specs.Trees as tree
use Rattle.pf_model.specs.Trees.{Tree, Trees, height, tree_of}
use Rattle.pf_selectors.specs.declared.times.Times.{Times}
use Rattle.pf_eval.specs.Bound.{HasRoom}
use Rattle.pf_eval.specs.declared.numbered.Search.{Search}
use Rattle.pf_eval.specs.declared.numbered.Search.TheVariants.{Found, Behind}

abbrev pub is_number : Tree → Bool
is_number (tree.number v) = true
is_number t = false

-- the matchers of a plain expression's one selector
abbrev mutual
  pub plain_matchers : Tree → List Matcher
  plain_matchers (tree.number v) = []
  plain_matchers (tree.text bytes) = []
  plain_matchers (tree.unary minus arg) = plain_matchers arg
  plain_matchers (tree.binary op m left right) = cond (is_literal left) (plain_matchers right) (plain_matchers left)
  plain_matchers (tree.call f args) = first_matchers args
  plain_matchers (tree.aggregate op g args) = []
  plain_matchers (tree.select ms range mods) = ms
  plain_matchers (tree.subquery arg range resolution mods) = []

  pub first_matchers : Trees → List Matcher
  first_matchers tree.none = []
  first_matchers (tree.more arg args) = plain_matchers arg

-- a plain expression that is evaluated at times with room for it
pub record IsPlainAt (t : Tree) (times : Times) : Type 0 where
  pub plain : is_plain t ≡ true
  pub evaluated : is_evaluated t ≡ true
  pub room : HasRoom (height t) times

-- a tree of a list by its place, or how many places behind the list it would stand
abbrev pub IsSoughtIn : List Tree → ℕ → Search → Type 0
IsSoughtIn ts n (Found expr) = at ts n ≡ Some (tree_of expr.now)
IsSoughtIn ts n (Behind further) = n ≡ length ts + further
