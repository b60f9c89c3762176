-- The words of the journal's entries, told as this crate is told them. This project's own.
use Rattle.std.specs.Prelude.{ℕ, List, [], ◌∷◌, codes}
use Rattle.std.specs.Fmt.{decimal}
use Rattle.pf_journal.specs.Replies.{line_text}
use Rattle.pf_journal.specs.Report.{floor_text}
use Rattle.pf_report.specs.declared.entries.EntryWords.{EntryWords}
use Rattle.pf_report.specs.declared.entries.EntryWords.TheVariants.{Append, Delete, Ask, Full, NoTenant, Cancel, Answer}

abbrev pub entry_words : EntryWords → List (List ℕ)
entry_words (Append tenant entry) = codes "append" ∷ tenant.now ∷ codes "entry" ∷ decimal entry ∷ []
entry_words (Delete tenant generation entry) =
    codes "delete" ∷ tenant.now ∷ codes "entry" ∷ decimal entry ∷ codes "generation" ∷ decimal generation ∷ []
entry_words (Ask tenant pin generation floor) =
    codes "ask" ∷ tenant.now ∷ codes "pin" ∷ decimal pin ∷ codes "generation" ∷ decimal generation
    ∷ codes "floor" ∷ floor_text floor ∷ []
entry_words (Full tenant outstanding) = codes "full" ∷ tenant.now ∷ codes "outstanding" ∷ decimal outstanding ∷ []
entry_words (NoTenant name) = codes "tenants" ∷ codes "full" ∷ name.now ∷ []
entry_words (Cancel query) = codes "cancel" ∷ decimal query ∷ []
entry_words (Answer query code) = codes "answer" ∷ decimal query ∷ decimal code ∷ []

-- the line of an entry at a place, by a client and a line
abbrev pub entry_line : (place client line : ℕ) → EntryWords → List ℕ
entry_line place client line words =
    line_text (decimal place ∷ codes "client" ∷ decimal client ∷ codes "line" ∷ decimal line ∷ entry_words words)
