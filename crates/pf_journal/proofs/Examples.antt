-- The words of the worked examples.
use Rattle.std.proofs.Common.{◌≡◌, sym, ap, ◌∙◌, Bool, Option, ℕ, ℤ, pos, true, false, List, [], ◌∷◌, Some, None, codes, cond}
use Rattle.std.proofs.lemmas.Bool.{false≢true}
use Rattle.std.specs.Str.{bytes_eq}
use Rattle.pf_base.specs.Batches.{BatchData}
use Rattle.pf_base.specs.GridLists.{GridData}
use Rattle.pf_base.specs.LabelSets.{Pairs}
use Rattle.pf_base.specs.declared.plain.Limits.{Limits}
use Rattle.pf_base.specs.declared.plain.Row.{Row}
use Rattle.pf_model.specs.declared.expr.Function.TheVariants as called
use Rattle.pf_model.specs.declared.expr.Kind.TheVariants as kind
use Rattle.pf_model.specs.declared.expr.Matcher.{Matcher}
use Rattle.pf_model.specs.declared.expr.MatchSign.TheVariants as match
use Rattle.pf_model.specs.declared.expr.Side.TheVariants as side
use Rattle.pf_model.specs.declared.functions.InstantFn.TheVariants as function
use Rattle.pf_model.specs.declared.functions.Sign.TheVariants as operator
use Rattle.pf_model.specs.ErrorTexts.{of_grammar}
use Rattle.pf_model.specs.Parsing.{unexpected}
use Rattle.pf_model.specs.Queries.{Readings, lawful, refused}
use Rattle.pf_model.specs.Trees.{Tree}
use Rattle.pf_model.specs.Trees as tree
use Rattle.pf_journal.specs.Asking.{Asked}
use Rattle.pf_journal.specs.Machine.{Entry, What}
use Rattle.pf_journal.specs.Rest.{Known, Rest, Told, at_end}
use Rattle.pf_journal.specs.Scripts.{Line, Numbered}

-- ---- what differs by a test is not equal

pub differ : {X : Type 0} (f : X → Bool) (a b : X) → f a ≡ true → f b ≡ false → a ≡ b → ⊥
differ f a b h k e = false≢true (sym k ∙ (ap f (sym e) ∙ h))

abbrev pub is_name : List ℕ → Option (List ℕ) → Bool
is_name name None = false
is_name name (Some other) = bytes_eq name other

-- ---- samples and queries

abbrev pub row : Pairs → ℕ → ℤ → Row
row labels t v = record { labels = labels; time = t; value = v }

abbrev pub batch : List Row → BatchData
batch rows = record { rows = rows; skipped = 0 }

abbrev pub named : List ℕ → Pairs
named n = (codes "__name__", n) ∷ []

abbrev pub up_a : Pairs
up_a = (codes "__name__", codes "up") ∷ (codes "job", codes "a") ∷ []

-- `up{job="a"} 1 60000`
abbrev pub up_page : List ℕ
up_page = codes "up{job=\"a\"} 1 60000\n"

abbrev pub up_batch : BatchData
up_batch = batch (row up_a 60000 (pos 1000000) ∷ [])

-- files by their names; any other is empty
abbrev pub files_of : List (List ℕ × List ℕ) → List ℕ → List ℕ
files_of [] name = []
files_of (file ∷ more) name = cond (bytes_eq file.0 name) file.1 (files_of more name)

abbrev pub equal : List ℕ → List ℕ → Matcher
equal label value = record { label = label; sign = match.Equal; text = value }

-- `up{job="a"}`, `scalar(up{job="a"})`, `vector(1)`, `1 / 0` and `up / on () up`
abbrev pub up : Tree
up = tree.instant (equal (codes "__name__") (codes "up") ∷ equal (codes "job") (codes "a") ∷ [])

abbrev pub scalar_up : Tree
scalar_up = tree.call (called.Instant function.Scalar) (tree.more up tree.none)

abbrev pub vector_1 : Tree
vector_1 = tree.call (called.Instant function.Vector) (tree.more (tree.number (pos 1000000)) tree.none)

abbrev pub by_zero : Tree
by_zero = tree.binary (record { sign = operator.Div; with_bool = false })
    (record { on = false; labels = []; side = side.One; include = [] }) (tree.number (pos 1000000)) (tree.number (pos 0))

abbrev pub any_up : Tree
any_up = tree.instant (equal (codes "__name__") (codes "up") ∷ [])

abbrev pub on_nothing : Tree
on_nothing = tree.binary (record { sign = operator.Div; with_bool = false })
    (record { on = true; labels = []; side = side.One; include = [] }) any_up any_up

-- `sum(` is the one query that is refused
abbrev pub reads : Readings
reads text =
    cond (bytes_eq text (codes "up{job=\"a\"}")) (Some (lawful up))
    (cond (bytes_eq text (codes "scalar(up{job=\"a\"})")) (Some (lawful scalar_up))
    (cond (bytes_eq text (codes "vector(1)")) (Some (lawful vector_1))
    (cond (bytes_eq text (codes "1 / 0")) (Some (lawful by_zero))
    (cond (bytes_eq text (codes "up / on () up")) (Some (lawful on_nothing))
    (cond (bytes_eq text (codes "sum(")) (Some (refused (of_grammar (unexpected 4)))) None)))))

abbrev pub grid : ℕ → ℕ → ℕ → GridData
grid start step len = record { start = start; step = step; len = len }

-- a range query and an instant query of `up{job="a"}`
abbrev pub up_over : GridData → Asked
up_over g = record {
  query = record { tree = up; grid = g };
  kind = kind.Instant;
  instant = false;
  text = codes "{__name__=\"up\",job=\"a\"}";
}

abbrev pub up_at : ℕ → Asked
up_at time = record {
  query = record { tree = up; grid = grid time 0 1 };
  kind = kind.Instant;
  instant = true;
  text = codes "{__name__=\"up\",job=\"a\"}";
}

-- ---- journals and scripts

abbrev pub limits_of : ℕ → ℕ → Limits
limits_of outstanding journal =
    record { outstanding = outstanding; window = 600000; interval = 86400000; shards = 4; extents = 256; journal = journal }

abbrev pub known_of : Limits → List (List ℕ) → Known
known_of limits names = record { limits = limits; names = names; files = files_of ((codes "up", up_page) ∷ []); refused = []; readings = reads }

-- with ample limits, and the tenant `acme` alone
abbrev pub usual : Known
usual = known_of (limits_of 100 4000000) (codes "acme" ∷ [])

-- an entry of client 0
abbrev pub at_line : ℕ → What → Entry
at_line line what = record { client = 0; line = line; what = what }

abbrev pub line : ℕ → Line → Numbered
line n l = record { number = n; line = l }

-- one client that ran its whole script, without failed tries
abbrev pub one_client : List Told → Rest
one_client told = record { clients = record { told = told; why = at_end } ∷ []; failed = [] }
