-- The lines of entries are those that the definitions give, where a tenant's number has the name.
use Rattle.std.proofs.Common.{◌≡◌, ℕ, Bor, Option, List, [], ◌∷◌, codes, refl, ap, sym}
use Rattle.std.specs.Fmt.{decimal}
use Rattle.pf_base.specs.Batches.{BatchData}
use Rattle.pf_model.specs.declared.expr.Matcher.{Matcher}
use Rattle.pf_model.specs.Log.{Verdict}
use Rattle.pf_journal.specs.Asking.{Asked}
use Rattle.pf_journal.specs.Machine as machine
use Rattle.pf_journal.specs.Replies.{line_text}
use Rattle.pf_journal.specs.Report.{entry_text, floor_text, name_of, what_words}
use Rattle.pf_report.specs.Entries.{entry_line, entry_words}
use Rattle.pf_report.specs.declared.entries.EntryWords.{EntryWords}
use Rattle.pf_report.specs.declared.entries.EntryWords.TheVariants.{Append, Delete, Ask, Full, NoTenant, Cancel, Answer}

-- a line whose words are those of the entry
pub line_is : (names : List (List ℕ)) (place : ℕ) (e : machine.Entry) (words : EntryWords) → entry_words words ≡ what_words names e.what
    → entry_line place e.client e.line words ≡ entry_text names place e
line_is names place e words h =
    ap (λ ws. line_text (decimal place ∷ codes "client" ∷ decimal e.client ∷ codes "line" ∷ decimal e.line ∷ ws)) h

pub append_is : (names : List (List ℕ)) (u : ℕ) (tenant : Bor (List ℕ)) (batch : BatchData) (vs : List Verdict) (entry : ℕ)
    → name_of names u ≡ tenant.now → entry_words (Append tenant entry) ≡ what_words names (machine.append u batch vs entry)
append_is names u tenant batch vs entry h =
    ap (λ name. codes "append" ∷ name ∷ codes "entry" ∷ decimal entry ∷ []) (sym h)

pub delete_is : (names : List (List ℕ)) (u : ℕ) (tenant : Bor (List ℕ)) (ms : List Matcher) (from to generation entry : ℕ)
    → name_of names u ≡ tenant.now
    → entry_words (Delete tenant generation entry) ≡ what_words names (machine.delete u ms from to generation entry)
delete_is names u tenant ms from to generation entry h =
    ap (λ name. codes "delete" ∷ name ∷ codes "entry" ∷ decimal entry ∷ codes "generation" ∷ decimal generation ∷ []) (sym h)

pub ask_is : (names : List (List ℕ)) (u : ℕ) (tenant : Bor (List ℕ)) (asked : Asked) (pin generation : ℕ) (floor : Option ℕ)
    → name_of names u ≡ tenant.now
    → entry_words (Ask tenant pin generation floor) ≡ what_words names (machine.ask u asked pin generation floor)
ask_is names u tenant asked pin generation floor h =
    ap (λ name. codes "ask" ∷ name ∷ codes "pin" ∷ decimal pin ∷ codes "generation" ∷ decimal generation
    ∷ codes "floor" ∷ floor_text floor ∷ []) (sym h)

pub full_is : (names : List (List ℕ)) (u : ℕ) (tenant : Bor (List ℕ)) (outstanding : ℕ) → name_of names u ≡ tenant.now
    → entry_words (Full tenant outstanding) ≡ what_words names (machine.full u outstanding)
full_is names u tenant outstanding h =
    ap (λ name. codes "full" ∷ name ∷ codes "outstanding" ∷ decimal outstanding ∷ []) (sym h)

pub no_tenant_is : (names : List (List ℕ)) (name : Bor (List ℕ))
    → entry_words (NoTenant name) ≡ what_words names (machine.no_tenant name.now)
no_tenant_is names name = refl

pub cancel_is : (names : List (List ℕ)) (query : ℕ) → entry_words (Cancel query) ≡ what_words names (machine.cancel query)
cancel_is names query = refl

pub answer_is : (names : List (List ℕ)) (query code cached evaluated : ℕ)
    → entry_words (Answer query code) ≡ what_words names (machine.answer query code cached evaluated)
answer_is names query code cached evaluated = refl
