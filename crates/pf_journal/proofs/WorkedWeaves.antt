-- Worked examples of legal and woven journals: those of the small sessions.
use Rattle.std.proofs.Common.{◌≡◌, Some, zero, suc, subst, slice_get, add-zero, zero-add, arith, ℕ, ◌+◌, List, [], ◌∷◌, refl, sym, codes, inl, inr, lit≤, lit<}
use Rattle.std.proofs.lemmas.Option.{none-some}
use Rattle.json.proofs.Found.{Some_inj}
use Rattle.pf_model.specs.Queries.{IsReading, Reading}
use Rattle.std.specs.Fmt.{digits}
use Rattle.std.specs.Option.{is_none}
use Rattle.std.specs.Str.{bytes_eq}
use Rattle.pf_base.specs.Arithmetic.{clamp}
use Rattle.pf_journal.proofs.Examples.{differ}
use Rattle.pf_journal.proofs.Pages.{up_gives}
use Rattle.pf_journal.proofs.Sessions.{cancel_journal, cancel_known, cancel_rest, cancel_scripts, failed_journal, failed_known, failed_rest, failed_scripts, full_journal, full_known, full_rest, full_scripts, limit_journal, limit_known, limit_rest, limit_scripts, steps_journal, steps_known, steps_rest, steps_scripts, two_journal, two_known, two_rest, two_scripts, want_journal, want_known, want_rest, want_scripts}
use Rattle.pf_journal.specs.Legal.{Legal, moments}
use Rattle.pf_journal.specs.Machine.{Entry}
use Rattle.pf_journal.specs.Rest.{Client, Known, Rest}
use Rattle.pf_journal.specs.Scripts.{Numbered}
use Rattle.pf_journal.specs.Turns.{own_moments}
use Rattle.pf_journal.specs.Weave.{AreTried, Weave, WovenClient}

-- a client is woven into a journal
abbrev pub IsWovenIn : Known → List Entry → ℕ → List Numbered → Client → Type 0
IsWovenIn known journal client lines c = WovenClient known journal client (own_moments client (moments journal)) lines c

-- each client of a session
abbrev pub AllWoven : Known → List Entry → ℕ → List (List Numbered) → List Client → Type 0
AllWoven known journal client [] [] = Unit {0}
AllWoven known journal client (lines ∷ scripts) (c ∷ cs) =
    IsWovenIn known journal client lines c × AllWoven known journal (client + 1) scripts cs
AllWoven known journal client _ _ = ⊥

abbrev pub IsSession : Known → List Entry → List (List Numbered) → Rest → Type 0
IsSession known journal scripts rest =
    Legal known.limits known.names journal × (AllWoven known journal 0 scripts rest.clients × AreTried journal rest)

-- the clients of a session are those of its weave
each_client : (known : Known) (journal : List Entry) (from : ℕ) (scripts : List (List Numbered)) (cs : List Client)
    → AllWoven known journal from scripts cs → (client : ℕ) (lines : List Numbered) (c : Client)
    → slice_get scripts client ≡ Some lines → slice_get cs client ≡ Some c → IsWovenIn known journal (from + client) lines c
each_client known journal from [] cs h client lines c a b = absurd (none-some _ a)
each_client known journal from (l ∷ ls) [] h client lines c a b = absurd h
each_client known journal from (l ∷ ls) (x ∷ cs) h zero lines c a b =
    rw (add-zero from) (subst (λ y. IsWovenIn known journal from y c) (Some_inj _ _ a)
    (subst (λ y. IsWovenIn known journal from l y) (Some_inj _ _ b) h.0))
each_client known journal from (l ∷ ls) (x ∷ cs) h (suc client) lines c a b =
    let e : from + 1 + client ≡ from + suc client = omega arith in
    subst (λ k. IsWovenIn known journal k lines c) e (each_client known journal (from + 1) ls cs h.1 client lines c a b)

limit_is_a_session : IsSession limit_known limit_journal limit_scripts limit_rest
unfolding clamp digits
limit_is_a_session = (
  (
    record { allowed = record { tenant = record { next = lit≤ tt; most = lit< tt }; below = lit< tt; pinned = refl; aged = refl; floored = refl }; room = lit≤ tt; named = lit≤ tt },
    (
      record { allowed = record { known = lit< tt; counted = refl; most = refl }; room = lit≤ tt; named = lit≤ tt },
      (
        record { allowed = record { coded = inl refl; stepped = inl refl; reused = record { at_once = λ h. cc; frozen = lit≤ tt } }; room = lit≤ tt; named = lit≤ tt },
        (
          record { allowed = record { tenant = record { next = lit≤ tt; most = lit< tt }; below = lit< tt; pinned = refl; aged = refl; floored = refl }; room = lit≤ tt; named = lit≤ tt },
          tt,
        ),
      ),
    ),
  ),
  (
    (
      record {
        woven = record {
          few = lit≤ tt;
          rising = (lit< tt, (lit< tt, (lit< tt, (lit< tt, tt))));
          lined = (inl refl, ((inr (inl refl)), ((inr (inr (inr (inl refl)))), ((inr (inr (inr (inr (inl refl))))), tt))));
          each = (
            record { matched = ((refl, refl), refl); roomy = lit≤ tt },
            (
              record { matched = ((refl, tt), refl); roomy = lit≤ tt },
              (
                record { matched = tt; roomy = tt },
                (
                  record { matched = (refl, refl); roomy = lit≤ tt },
                  (
                    record { matched = ((refl, refl), refl); roomy = lit≤ tt },
                    tt,
                  ),
                ),
              ),
            ),
          );
        };
        runs = (refl, refl);
      },
      tt,
    ),
    record { actors = lit≤ tt; five = inr (lit≤ tt); shown = lit≤ tt },
  ),
)

cancel_is_a_session : IsSession cancel_known cancel_journal cancel_scripts cancel_rest
unfolding clamp digits
cancel_is_a_session = (
  (
    record { allowed = record { tenant = record { next = lit≤ tt; most = lit< tt }; judged = refl; counted = refl }; room = lit≤ tt; named = lit≤ tt },
    (
      record { allowed = record { tenant = record { next = lit≤ tt; most = lit< tt }; below = lit< tt; pinned = refl; aged = refl; floored = refl }; room = lit≤ tt; named = lit≤ tt },
      (
        record { allowed = refl; room = lit≤ tt; named = lit≤ tt },
        (
          record { allowed = record { coded = refl; stepped = inl refl; reused = record { at_once = λ h. cc; frozen = lit≤ tt } }; room = lit≤ tt; named = lit≤ tt },
          tt,
        ),
      ),
    ),
  ),
  (
    (
      record {
        woven = record {
          few = lit≤ tt;
          rising = (lit< tt, (lit< tt, (lit< tt, (lit< tt, tt))));
          lined = (inl refl, ((inr (inl refl)), ((inr (inr (inr (inr (inr (inl refl)))))), ((inr (inr (inr (inr (inr (inr (inr (inr (inr (inl refl)))))))))), tt))));
          each = (
            record { matched = ((refl, up_gives), refl); roomy = lit≤ tt },
            (
              record { matched = ((refl, refl), refl); roomy = lit≤ tt },
              (
                record { matched = tt; roomy = tt },
                (
                  record { matched = (refl, record { query = tt; unanswered = refl; uncancelled = refl }); roomy = tt },
                  (
                    record { matched = λ p. differ (bytes_eq (codes "beta")) _ _ refl refl p.1; roomy = tt },
                    (
                      record { matched = ((refl, refl), refl); roomy = lit≤ tt },
                      (
                        record { matched = λ p. differ is_none _ _ refl refl (sym p.0.uncancelled); roomy = tt },
                        (
                          record { matched = refl; roomy = tt },
                          (
                            record { matched = tt; roomy = tt },
                            (
                              record { matched = (refl, refl); roomy = lit≤ tt },
                              (
                                record { matched = λ p. differ is_none _ _ refl refl (sym p.0.unanswered); roomy = tt },
                                tt,
                              ),
                            ),
                          ),
                        ),
                      ),
                    ),
                  ),
                ),
              ),
            ),
          );
        };
        runs = (refl, refl);
      },
      tt,
    ),
    record { actors = lit≤ tt; five = inr (lit≤ tt); shown = lit≤ tt },
  ),
)

full_is_a_session : IsSession full_known full_journal full_scripts full_rest
unfolding clamp digits
full_is_a_session = (
  (
    record { allowed = record { tenant = record { next = lit≤ tt; most = lit< tt }; judged = refl; counted = refl }; room = lit≤ tt; named = lit≤ tt },
    tt,
  ),
  (
    (
      record {
        woven = record {
          few = lit≤ tt;
          rising = (lit< tt, tt);
          lined = (inl refl, tt);
          each = (
            record { matched = ((refl, up_gives), refl); roomy = lit≤ tt },
            (
              record { matched = tt; roomy = tt },
              tt,
            ),
          );
        };
        runs = (refl, refl, record { front = 1; has_all = tt; over = lit< tt });
      },
      tt,
    ),
    record { actors = lit≤ tt; five = inr (lit≤ tt); shown = lit≤ tt },
  ),
)

steps_is_a_session : IsSession steps_known steps_journal steps_scripts steps_rest
unfolding clamp digits
steps_is_a_session = (
  (
    record { allowed = record { tenant = record { next = lit≤ tt; most = lit< tt }; judged = refl; counted = refl }; room = lit≤ tt; named = lit≤ tt },
    (
      record { allowed = record { tenant = record { next = lit≤ tt; most = lit< tt }; below = lit< tt; pinned = refl; aged = refl; floored = refl }; room = lit≤ tt; named = lit≤ tt },
      tt,
    ),
  ),
  (
    (
      record {
        woven = record {
          few = lit≤ tt;
          rising = (lit< tt, (lit< tt, tt));
          lined = (inl refl, ((inr (inl refl)), tt));
          each = (
            record { matched = ((refl, up_gives), refl); roomy = lit≤ tt },
            (
              record { matched = ((refl, refl), refl); roomy = lit≤ tt },
              (
                record { matched = tt; roomy = tt },
                (
                  record { matched = tt; roomy = tt },
                  (
                    record { matched = tt; roomy = tt },
                    (
                      record { matched = tt; roomy = tt },
                      (
                        record { matched = tt; roomy = tt },
                        (
                          record { matched = (refl, record { query = tt; unanswered = refl; uncancelled = refl }); roomy = tt },
                          (
                            record { matched = refl; roomy = tt },
                            (
                              record { matched = refl; roomy = tt },
                              (
                                record { matched = refl; roomy = tt },
                                (
                                  record { matched = tt; roomy = tt },
                                  (
                                    record { matched = record { opened = record { query = tt; unanswered = refl; uncancelled = refl }; counted = refl; some = lit< tt }; roomy = tt },
                                    (
                                      record { matched = refl; roomy = tt },
                                      tt,
                                    ),
                                  ),
                                ),
                              ),
                            ),
                          ),
                        ),
                      ),
                    ),
                  ),
                ),
              ),
            ),
          );
        };
        runs = (refl, refl);
      },
      tt,
    ),
    record { actors = lit≤ tt; five = inr (lit≤ tt); shown = lit≤ tt },
  ),
)

failed_is_a_session : IsSession failed_known failed_journal failed_scripts failed_rest
unfolding clamp digits
failed_is_a_session = (
  (
    record { allowed = record { tenant = record { next = lit≤ tt; most = lit< tt }; judged = refl; counted = refl }; room = lit≤ tt; named = lit≤ tt },
    (
      record { allowed = record { tenant = record { next = lit≤ tt; most = lit< tt }; below = lit< tt; pinned = refl; aged = refl; floored = refl }; room = lit≤ tt; named = lit≤ tt },
      (
        record { allowed = record { coded = inr (inl refl); stepped = inl refl; reused = record { at_once = λ h. cc; frozen = lit≤ tt } }; room = lit≤ tt; named = lit≤ tt },
        tt,
      ),
    ),
  ),
  (
    (
      record {
        woven = record {
          few = lit≤ tt;
          rising = (lit< tt, (lit< tt, (lit< tt, tt)));
          lined = (inl refl, ((inr (inl refl)), ((inr (inr (inr (inr (inr (inl refl)))))), tt)));
          each = (
            record { matched = ((refl, up_gives), refl); roomy = lit≤ tt },
            (
              record { matched = ((refl, refl), refl); roomy = lit≤ tt },
              (
                record { matched = tt; roomy = tt },
                (
                  record { matched = (refl, record { query = tt; unanswered = refl; uncancelled = refl }); roomy = tt },
                  (
                    record { matched = refl; roomy = tt },
                    (
                      record { matched = (refl, tt); roomy = lit≤ tt },
                      tt,
                    ),
                  ),
                ),
              ),
            ),
          );
        };
        runs = (refl, refl);
      },
      tt,
    ),
    record { actors = lit≤ tt; five = inr (lit≤ tt); shown = lit≤ tt },
  ),
)

want_is_a_session : IsSession want_known want_journal want_scripts want_rest
unfolding clamp digits
want_is_a_session = (
  (
    record { allowed = record { tenant = record { next = lit≤ tt; most = lit< tt }; judged = refl; counted = refl }; room = lit≤ tt; named = lit≤ tt },
    (
      record { allowed = record { tenant = record { next = lit≤ tt; most = lit< tt }; below = lit< tt; pinned = refl; aged = refl; floored = refl }; room = lit≤ tt; named = lit≤ tt },
      (
        record { allowed = record { coded = inr (inr refl); stepped = inr (refl, inr refl); reused = record { at_once = λ h. cc; frozen = lit≤ tt } }; room = lit≤ tt; named = lit≤ tt },
        tt,
      ),
    ),
  ),
  (
    (
      record {
        woven = record {
          few = lit≤ tt;
          rising = (lit< tt, (lit< tt, (lit< tt, tt)));
          lined = (inl refl, ((inr (inl refl)), ((inr (inr (inr (inl refl)))), tt)));
          each = (
            record { matched = ((refl, up_gives), refl); roomy = lit≤ tt },
            (
              record { matched = ((refl, refl), refl); roomy = lit≤ tt },
              (
                record { matched = tt; roomy = tt },
                (
                  record { matched = (refl, refl); roomy = lit≤ tt },
                  (
                    record { matched = tt; roomy = tt },
                    (
                      record { matched = tt; roomy = tt },
                      (
                        record { matched = tt; roomy = tt },
                        tt,
                      ),
                    ),
                  ),
                ),
              ),
            ),
          );
        };
        runs = (refl, refl, tt);
      },
      tt,
    ),
    record { actors = lit≤ tt; five = inr (lit≤ tt); shown = lit≤ tt },
  ),
)

pub two_is_a_session : IsSession two_known two_journal two_scripts two_rest
unfolding clamp digits
two_is_a_session = (
  (
    record { allowed = record { tenant = record { next = lit≤ tt; most = lit< tt }; judged = refl; counted = refl }; room = lit≤ tt; named = lit≤ tt },
    (
      record { allowed = record { tenant = record { next = lit≤ tt; most = lit< tt }; below = lit< tt; pinned = refl; aged = refl; floored = refl }; room = lit≤ tt; named = lit≤ tt },
      (
        record { allowed = record { tenant = record { next = lit≤ tt; most = lit< tt }; below = lit< tt; pinned = refl; aged = refl; floored = refl }; room = lit≤ tt; named = lit≤ tt },
        (
          record { allowed = record { coded = inl refl; stepped = inl refl; reused = record { at_once = λ h. cc; frozen = lit≤ tt } }; room = lit≤ tt; named = lit≤ tt },
          (
            record { allowed = record { coded = inl refl; stepped = inl refl; reused = record { at_once = λ h. cc; frozen = lit≤ tt } }; room = lit≤ tt; named = lit≤ tt },
            tt,
          ),
        ),
      ),
    ),
  ),
  (
    (
      record {
        woven = record {
          few = lit≤ tt;
          rising = (lit< tt, (lit< tt, (lit< tt, tt)));
          lined = (inl refl, ((inr (inl refl)), ((inr (inr (inl refl))), tt)));
          each = (
            record { matched = ((refl, up_gives), refl); roomy = lit≤ tt },
            (
              record { matched = ((refl, refl), refl); roomy = lit≤ tt },
              (
                record { matched = (refl, refl); roomy = lit≤ tt },
                tt,
              ),
            ),
          );
        };
        runs = (refl, refl);
      },
      (
        record {
          woven = record {
            few = lit≤ tt;
            rising = (lit< tt, (lit< tt, tt));
            lined = (inl refl, ((inr (inl refl)), tt));
            each = (
              record { matched = ((refl, refl), refl); roomy = lit≤ tt },
              (
                record { matched = (refl, refl); roomy = lit≤ tt },
                tt,
              ),
            );
          };
          runs = (refl, refl);
        },
        tt,
      ),
    ),
    record { actors = lit≤ tt; five = inr (lit≤ tt); shown = lit≤ tt },
  ),
)

-- a session is woven, where its queries are read as they are said to be
cancel_is_woven : ((text : List ℕ) (r : Reading) → cancel_known.readings text ≡ Some r → IsReading [] text r)
    → Weave cancel_known cancel_journal cancel_scripts cancel_rest
cancel_is_woven read = record {
  many = refl;
  each = λ client lines c a b. subst (λ k. IsWovenIn cancel_known cancel_journal k lines c) (zero-add client)
      (each_client cancel_known cancel_journal 0 cancel_scripts cancel_rest.clients cancel_is_a_session.1.0 client lines c a b);
  nobody_else = (lit< tt, (lit< tt, (lit< tt, (lit< tt, tt))));
  too_big = refl;
  read = read;
  tried = cancel_is_a_session.1.1;
}
