-- What an evaluation prints.
use Rattle.std.proofs.Common.{◌≡◌, ℕ, false, Option, Some, Result, Ok, Err, List, refl, sym, ap, ◌∙◌, codes, decimal}
use Rattle.std.specs.Arc.{arc_value}
use Rattle.std.specs.Fmt.{digits}
use Rattle.std.specs.Option.{option_map_or}
use Rattle.std.specs.declared.alloc.Global.{Global}
use Rattle.std.specs.declared.sync.Arc.{Arc}
use Rattle.pf_base.specs.Batches.{BatchData}
use Rattle.pf_base.specs.GridLists.{GridData}
use Rattle.pf_base.specs.Grids.{grid_of}
use Rattle.pf_base.specs.declared.grid.GridError.{GridError}
use Rattle.pf_base.specs.declared.plain.Row.{Row}
use Rattle.pf_match.specs.Tables.{AreTooBig}
use Rattle.pf_model.specs.Direct.{direct}
use Rattle.pf_model.specs.ErrorTexts.{QueryFault, grid_text, memory_text, query_text}
use Rattle.pf_model.specs.Log.{batch_samples}
use Rattle.pf_journal.specs.Asking.{Asked, asked_over, asked_with}
use Rattle.pf_journal.specs.Bodies.{body_text, refused_body}
use Rattle.pf_journal.specs.Evaluations.{evaluated_text, evaluation_text}
use Rattle.pf_journal.specs.Machine.{code_of}
use Rattle.pf_model.specs.Queries.{Reading, lawful, refused}
use Rattle.pf_report.specs.Bodies.{code_in, text_of_body}
use Rattle.pf_report.specs.declared.bodies.Body.{Body}
use Rattle.pf_types.specs.Errors.{words_of_error}
use Rattle.pf_types.specs.declared.query.QueryError.{QueryError}
use Rattle.pf_top.specs.Commands.{IsText}
use Rattle.pf_client.specs.Queries.{IsQueryRead}
use Rattle.pf_types.specs.declared.bound.BoundQuery.{BoundQuery}
use Rattle.pf_client.specs.declared.queries.QueryRead.{QueryRead}
use Rattle.pf_client.specs.declared.queries.QueryRead.TheVariants as query

-- the code of a refusal
pub code_400 : decimal 400 ≡ codes "400"
unfolding digits
code_400 = refl

-- a body over samples
pub body_printed : (samples : List Row) (wanted asked : Asked) (b : Body) (text : List ℕ)
    → asked ≡ wanted → text_of_body b ≡ body_text asked (direct samples asked.query) → code_in b ≡ code_of (direct samples asked.query)
    → text ≡ evaluation_text (decimal (code_in b)) (text_of_body b) → text ≡ evaluated_text samples (Some (Ok wanted))
body_printed samples wanted asked b text same is coded told =
    told ∙ ap (λ (n : ℕ). evaluation_text (decimal n) (text_of_body b)) coded
    ∙ ap (evaluation_text (decimal (code_of (direct samples asked.query)))) is
    ∙ ap (λ (x : Asked). evaluated_text samples (Some (Ok x))) same

-- a lawful query, and one that is refused, over a grid
pub query_printed : (refs : List (List ℕ)) (batch : BatchData) (words : List ℕ) (start end step : ℕ) (grid : GridData) (q : Arc BoundQuery Global) (text : List ℕ)
    → text ≡ evaluated_text (batch_samples batch.rows) (Some (Ok (asked_over false grid (arc_value q))))
    → AreTooBig refs → IsQueryRead refs words (query.Lawful q) → grid_of start end step ≡ Ok grid → IsText batch words start end step text
query_printed refs batch words start end step grid q text told big h gridded =
    let reading : Reading = lawful (arc_value q) in
    (refs, (big, (reading, (h, told ∙ ap (λ (g : Result GridData GridError). evaluated_text (batch_samples batch.rows) (asked_with false g (Some reading))) (sym gridded)))))

pub refusal_printed : (refs : List (List ℕ)) (batch : BatchData) (words : List ℕ) (start end step : ℕ) (grid : GridData) (e : QueryError) (text : List ℕ)
    → text ≡ evaluation_text (codes "400") (refused_body (words_of_error e))
    → AreTooBig refs → IsQueryRead refs words (query.Refused e) → grid_of start end step ≡ Ok grid → IsText batch words start end step text
refusal_printed refs batch words start end step grid e text told big h gridded =
    let reading : Reading = refused h.0 in (
      refs,
      (
        big,
        (
          reading,
          (
            h.1.1,
            told
                ∙ ap (λ (o : Option QueryFault). evaluation_text (codes "400") (refused_body (option_map_or query_text o memory_text))) h.1.0
                ∙ ap (λ (g : Result GridData GridError). evaluated_text (batch_samples batch.rows) (asked_with false g (Some reading))) (sym gridded),
          ),
        ),
      ),
    )

-- where the times are refused, however the query is read
pub times_printed : (refs : List (List ℕ)) (batch : BatchData) (words : List ℕ) (start end step : ℕ) (error : GridError) (q : QueryRead) (text : List ℕ)
    → text ≡ evaluation_text (codes "400") (refused_body (grid_text error))
    → AreTooBig refs → IsQueryRead refs words q → grid_of start end step ≡ Err error → IsText batch words start end step text
times_printed refs batch words start end step error (query.Lawful q) text told big h gridded =
    let reading : Reading = lawful (arc_value q) in
    (refs, (big, (reading, (h, told ∙ ap (λ (g : Result GridData GridError). evaluated_text (batch_samples batch.rows) (asked_with false g (Some reading))) (sym gridded)))))
times_printed refs batch words start end step error (query.Refused e) text told big h gridded =
    let reading : Reading = refused h.0 in
    (refs, (big, (reading, (h.1.1, told ∙ ap (λ (g : Result GridData GridError). evaluated_text (batch_samples batch.rows) (asked_with false g (Some reading))) (sym gridded)))))
