use Rattle.std.proofs.Common.{◌∷◌, [], codes, decimal, sym}
use Rattle.pf_journal.specs.Replies.{line_text}
use Rattle.pf_report.specs.Entries.{entry_line}
use Rattle.pf_report.proofs.Retold.{retold}
use Rattle.pf_report.proofs.entries.push_entry.Goals as goal

pub returns-in-Delete-clause-ok : goal.returns-in-Delete-clause-ok
returns-in-Delete-clause-ok c =
    retold c.push_words-in-Delete.result (entry_line c.args.place c.args.by.client c.args.by.line) _ _ c.args.out.now.items
    c.push_words-in-Delete.new.out.items (sym c.in-Delete.is) c.push_words-in-Delete.ensures.ok

pub returns-in-Full-clause-ok : goal.returns-in-Full-clause-ok
returns-in-Full-clause-ok c =
    retold c.push_words-in-Full.result (entry_line c.args.place c.args.by.client c.args.by.line) _ _ c.args.out.now.items
    c.push_words-in-Full.new.out.items (sym c.in-Full.is)
    (retold c.push_words-in-Full.result
    (λ n. line_text (decimal c.args.place ∷ codes "client" ∷ decimal c.args.by.client ∷ codes "line" ∷ decimal c.args.by.line
    ∷ codes "full" ∷ c.in-Full.tenant.now ∷ codes "outstanding" ∷ decimal n ∷ []))
    _ _ c.args.out.now.items c.push_words-in-Full.new.out.items c.from.ensures c.push_words-in-Full.ensures.ok)
