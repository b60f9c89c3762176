-- What a node of a query is given: the lists of series that its selectors take, the patterns of its calls, and times that leave
-- room for the distances that it reads back: this project's own.
use Rattle.std.specs.Prelude.{◌≡◌, ◌<◌, ◌≤◌, ◌+◌, ◌*◌, ℕ, ℤ, pos, unsigned_abs, true, List, [], ◌∷◌, ◌++◌}
use Rattle.std.specs.List.{list_any}
use Rattle.std.specs.Str.{bytes_eq}
use Rattle.pf_base.specs.LabelSets.{Pairs}
use Rattle.pf_base.specs.Limits.{greatest_time}
use Rattle.pf_model.specs.Binding.{accepted_ids, patterns_in}
use Rattle.pf_model.specs.Trees as tree
use Rattle.pf_model.specs.Trees.{Tree, Trees, all_preorder, height, heights, preorder}
use Rattle.pf_selectors.specs.declared.times.Times.{Times}
use Rattle.pf_selectors.specs.Subqueries.{AreMultiplesOver}
use Rattle.pf_selectors.specs.Times.{AreStarts, AreTimes, time_at}
use Rattle.pf_eval.specs.declared.subquery.InnerRun.{InnerRun}

-- for each selector the ids of its series, in preorder
abbrev mutual
  pub series_in : Tree → List Pairs → List (List ℕ)
  series_in (tree.number v) ls = []
  series_in (tree.text bytes) ls = []
  series_in (tree.unary minus arg) ls = series_in arg ls
  series_in (tree.binary op m left right) ls = series_in left ls ++ series_in right ls
  series_in (tree.call f args) ls = all_series_in args ls
  series_in (tree.aggregate op g args) ls = all_series_in args ls
  series_in (tree.select ms range mods) ls = accepted_ids ms ls ∷ []
  series_in (tree.subquery arg range resolution mods) ls = series_in arg ls

  pub all_series_in : Trees → List Pairs → List (List ℕ)
  all_series_in tree.none ls = []
  all_series_in (tree.more arg args) ls = series_in arg ls ++ all_series_in args ls

-- the lists at hand begin with those that are taken
abbrev pub Begins : List (List ℕ) → List (List ℕ) → Type 0
Begins [] lists = Unit {0}
Begins (ids ∷ taken) [] = ⊥
Begins (ids ∷ taken) (list ∷ lists) = (list ≡ ids) × Begins taken lists

-- what is behind those that are taken
abbrev pub behind : List (List ℕ) → List (List ℕ) → List (List ℕ)
behind [] lists = lists
behind (ids ∷ taken) [] = []
behind (ids ∷ taken) (list ∷ lists) = behind taken lists

-- each text is that of a pattern at hand
abbrev pub AreThere : List (List ℕ) → List (List ℕ) → Type 0
AreThere [] patterns = Unit {0}
AreThere (text ∷ texts) patterns = (list_any (λ p. bytes_eq p text) patterns ≡ true) × AreThere texts patterns

-- a time that may be moved by 2^43 milliseconds at each of so many levels, and is then at most 2^50 in size
abbrev pub HasLevels : ℕ → ℤ → Type 0
HasLevels levels t = unsigned_abs t + 8796093022208 * levels ≤ 1125899906842624

-- such times, a first one, and the greatest that `@` fixes
pub record HasRoom (levels : ℕ) (times : Times) : Type 0 where
  pub fixed : HasLevels levels (pos greatest_time)
  pub start : HasLevels levels times.start
  pub all : (k : ℕ) → k < times.len → HasLevels levels (time_at times k)

-- what a tree is evaluated with, and what trees are
pub record IsGiven (t : Tree) (ls : List Pairs) (lists texts : List (List ℕ)) (times : Times) : Type 0 where
  pub bound : Begins (series_in t ls) lists
  pub patterns : AreThere (patterns_in (preorder t)) texts
  pub room : HasRoom (height t) times

pub record AreGiven (ts : Trees) (ls : List Pairs) (lists texts : List (List ℕ)) (times : Times) : Type 0 where
  pub bound : Begins (all_series_in ts ls) lists
  pub patterns : AreThere (patterns_in (all_preorder ts)) texts
  pub room : HasRoom (heights ts) times

-- the windows of a run that a subquery is read at, and the times of its inner expression in them
pub record IsInnerRun (range resolution : ℕ) (run : InnerRun) : Type 0 where
  pub within : AreTimes run.read
  pub starts : AreStarts range run.read
  pub multiples : AreMultiplesOver range resolution run.at run.read
