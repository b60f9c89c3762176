-- The cells of a query while they are joined piece by piece, and what the joined cells are: this project's own.
use Rattle.std.specs.Prelude.{◌≡◌, ℕ, ◌+◌, ◌*◌, ◌/◌, ◌<◌, ◌≤◌, pos, Bool, true, false, not, cond, nat_eq, List, [], ◌∷◌, ◌++◌, length, map}
use Rattle.pf_base.specs.GridLists.{GridData, IsGrid}
use Rattle.pf_base.specs.Grids.{points}
use Rattle.pf_base.specs.declared.plain.Row.{Row}
use Rattle.pf_core.specs.Jobs.{IsRunOf}
use Rattle.pf_extent.specs.Done.{AreWhole, steps_in}
use Rattle.pf_extent.specs.declared.done.DoneCells.{DoneCells}
use Rattle.pf_front.specs.declared.joining.PieceCells.{PieceCells}
use Rattle.pf_model.specs.Evaluation.{eval}
use Rattle.pf_model.specs.Lists.{Each, joined}
use Rattle.pf_model.specs.Trees.{Tree}
use Rattle.pf_model.specs.declared.cell.Element.{Element}
use Rattle.pf_model.specs.declared.cell.StepCell.TheVariants.{Good}
use Rattle.pf_query.specs.Covers.{lies_in}
use Rattle.pf_query.specs.Jobs.{is_empty}
use Rattle.pf_results.specs.Woven.{AreWoven, IsWoven, Span, done_in, wanted, wanted_in}
use Rattle.pf_split.specs.Pieces.{pieces_of}
use Rattle.pf_split.specs.declared.splitting.Piece.{Piece}

-- the cells of steps, one after another
abbrev pub AllCells : Type 0
AllCells = List (List Element)

abbrev pub all_of : List AllCells → AllCells
all_of parts = joined (λ cells. cells) parts

-- the runs of cells
abbrev pub runs_in : List DoneCells → List GridData
runs_in ds = map (λ d. d.run) ds

-- those of pieces
abbrev pub piece_runs : List Piece → List GridData
piece_runs ps = map (λ p. p.run) ps

-- cells are what a query is at times, one for each, without error
abbrev pub AreCellsAt : List Row → Tree → List ℕ → AllCells → Type 0
AreCellsAt samples query [] [] = Unit {0}
AreCellsAt samples query [] (c ∷ cells) = ⊥
AreCellsAt samples query (t ∷ ts) [] = ⊥
AreCellsAt samples query (t ∷ ts) (c ∷ cells) = (eval samples query (pos t) ≡ Good c) × AreCellsAt samples query ts cells

abbrev pub AreTrueCells : List Row → Tree → DoneCells → Type 0
AreTrueCells samples query d = AreCellsAt samples query (points d.run) d.cells

abbrev pub AreAllTrue : List Row → Tree → List DoneCells → Type 0
AreAllTrue samples query ds = Each (AreTrueCells samples query) ds

-- the first of some cells begin at a time
abbrev pub begin_at : ℕ → List DoneCells → Bool
begin_at t [] = false
begin_at t (d ∷ ds) = nat_eq d.run.start t

-- the first cells are taken, of those that were cached or of the others
abbrev pub IsTakenFrom : (cached : Bool) → List DoneCells → List DoneCells → DoneCells → List DoneCells → List DoneCells → Type 0
IsTakenFrom true ds es d ds' es' = (ds ≡ d ∷ ds') × (es' ≡ es)
IsTakenFrom false ds es d ds' es' = (es ≡ d ∷ es') × (ds' ≡ ds)

-- pieces as spans of a grid
abbrev pub whole_spans : List Piece → List Span
whole_spans ps = map (λ p. wanted p.run) ps

-- pieces are the steps of a grid, one after another
pub record AreInLine (ps : List Piece) : Type 0 where
  pub grid : GridData
  pub lawful : 1 ≤ grid.len → IsGrid grid
  pub woven : IsWoven grid (whole_spans ps)

-- the cells of the first of some pieces, taken from those that were cached and those that were evaluated
pub record IsNextPiece (pieces : List Piece) (ds es : List DoneCells) (found : PieceCells) (pieces' : List Piece) (ds' es' : List DoneCells) : Type 0 where
  pub piece : Piece
  pub front : pieces ≡ piece ∷ pieces'
  pub run_is : found.run ≡ piece.run
  pub spans : List Span
  pub woven : IsWoven piece.run spans
  pub done_are : ds ≡ done_in spans ++ ds'
  pub wanted_are : runs_in es ≡ wanted_in spans ++ runs_in es'
  pub behind : AreWoven pieces' ds' (runs_in es')
  pub whole : AreWhole es'
  pub evaluated_is : found.evaluated ≡ not (is_empty (wanted_in spans))
  pub many : length found.cells ≡ piece.run.len
  pub values : (samples : List Row) (query : Tree) → AreAllTrue samples query ds → AreAllTrue samples query es
      → AreCellsAt samples query (points piece.run) found.cells × (AreAllTrue samples query ds' × AreAllTrue samples query es')

-- the cells of a piece in which a step was evaluated, with its run
abbrev pub noted_of : PieceCells → List DoneCells
noted_of piece = cond piece.evaluated (record { run = piece.run; cells = piece.cells } ∷ []) []

-- of a piece in which runs lie, its cells; of one without, none
abbrev pub IsNotedBy : Piece → List GridData → List DoneCells → List DoneCells → Type 0
IsNotedBy p [] ds ds' = ds ≡ ds'
IsNotedBy p (r ∷ rs) ds ds' = (d : DoneCells) × (d.run ≡ p.run) × (ds ≡ d ∷ ds')

-- the cells of each piece in which one of some runs lies, and of no other
abbrev pub AreNotedOf : List Piece → List GridData → List DoneCells → Type 0
AreNotedOf [] rs ds = (rs ≡ []) × (ds ≡ [])
AreNotedOf (p ∷ ps) rs ds =
    (own : List GridData) × (rest : List GridData) × (ds' : List DoneCells) × Each (λ r. lies_in r p.run ≡ true) own × (rs ≡ own ++ rest)
    × IsNotedBy p own ds ds' × AreNotedOf ps rest ds'

-- a run is of a grid's steps in one interval
pub record IsRunIn (interval : ℕ) (grid run : GridData) : Type 0 where
  pub run_is : IsRunOf grid run
  pub place : (k : ℕ) → k < run.len → (run.start + k * run.step) / interval ≡ run.start / interval

-- the cells of all pieces of a grid, and those of each piece with a step that was evaluated
pub record ArePieceCells (interval : ℕ) (grid : GridData) (ds es : List DoneCells) (cells : List AllCells) (noted : List DoneCells) : Type 0 where
  pub many : length (all_of cells) ≡ grid.len
  pub noted_are : AreNotedOf (pieces_of interval grid.step (points grid)) (runs_in es) noted
  pub each : Each (λ d. IsRunIn interval grid d.run) noted
  pub whole : AreWhole noted
  pub few : steps_in noted ≤ grid.len
  pub all : ds ≡ [] → runs_in noted ≡ piece_runs (pieces_of interval grid.step (points grid))
  pub values : (samples : List Row) (query : Tree) → AreAllTrue samples query ds → AreAllTrue samples query es
      → AreCellsAt samples query (points grid) (all_of cells) × AreAllTrue samples query noted
