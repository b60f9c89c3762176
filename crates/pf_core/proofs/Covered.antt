-- The failed tries that are counted cover those of the jobs of open queries and of answers, change by change.
use Rattle.std.proofs.Common.{◌≡◌, ◌+◌, ◌*◌, ◌≤◌, inl, inr, List, [], ◌∷◌, ◌++◌, ap, ◌∙◌, arith}
use Rattle.std.specs.Prelude.{sum}
use Rattle.pf_journal.specs.Machine.{Entry}
use Rattle.pf_journal.specs.Weave.{failed_answers, is_500}
use Rattle.pf_core.specs.Cores.{AreCovered, CoreData}
use Rattle.pf_core.specs.Progress.{tried_in}
use Rattle.pf_core.specs.States.{IsAhead}

pub covered_less : (old new : CoreData) → new.failed ≡ old.failed → new.journal ≡ old.journal → tried_in new.progress ≤ tried_in old.progress → AreCovered old → AreCovered new
covered_less old new f j less (inl most) = inl (ap sum f ∙ most)
covered_less old new f j less (inr most) =
    inr (let counts = ap sum f in let answers = ap failed_answers j in omega (arith, counts, answers, less, most))

-- by a try more
pub covered_ahead : (old new : CoreData) → new.failed ≡ old.failed → new.journal ≡ old.journal → tried_in new.progress ≤ tried_in old.progress + 1 → IsAhead old → AreCovered new
covered_ahead old new f j less (inl most) = inl (ap sum f ∙ most)
covered_ahead old new f j less (inr most) =
    inr (let counts = ap sum f in let answers = ap failed_answers j in omega (arith, counts, answers, less, most))

failed_pushed : (J : List Entry) (e : Entry) → failed_answers (J ++ e ∷ []) ≡ failed_answers J + is_500 e.what
failed_pushed [] e = omega arith
failed_pushed (f ∷ J) e = let rest = failed_pushed J e in omega (arith, rest)

-- after an entry
pub covered_entered : (old new : CoreData) (e : Entry) → new.failed ≡ old.failed → new.journal ≡ old.journal ++ e ∷ []
    → 5 * is_500 e.what + tried_in new.progress ≤ tried_in old.progress → AreCovered old → AreCovered new
covered_entered old new e f j less (inl most) = inl (ap sum f ∙ most)
covered_entered old new e f j less (inr most) =
    inr (let counts = ap sum f in let answers = ap failed_answers j ∙ failed_pushed old.journal e in omega (arith, counts, answers, less, most))
