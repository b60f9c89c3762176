-- Worked examples of the results cache, of limits and of deletions: their journals are legal and woven from their scripts, and these
-- are their whole reports.
use Rattle.std.proofs.Common.{◌≡◌, false, [], ◌∷◌, refl, codes, inl, inr, lit≤, lit<, None, Some}
use Rattle.json.specs.Print.{escape_byte}
use Rattle.std.specs.Char.{encode_utf8}
use Rattle.std.specs.Fmt.{digits}
use Rattle.pf_base.specs.Arithmetic.{clamp}
use Rattle.pf_base.specs.NumberTexts.{without_end_zeros}
use Rattle.pf_model.specs.Grammar.{select}
use Rattle.pf_model.specs.Queries.{IsSelector}
use Rattle.pf_model.specs.Tokens as token
use Rattle.pf_journal.proofs.CacheSessions.{at_the_end_known, at_the_end_journal, at_the_end_scripts, at_the_end_rest, later_asker_known, later_asker_journal, later_asker_scripts, later_asker_rest, counted_known, counted_journal, counted_scripts, counted_rest, deleted_known, deleted_journal, deleted_scripts, deleted_rest, two_open_known, two_open_journal, two_open_scripts, two_open_rest, in_turn_known, in_turn_journal, in_turn_scripts, in_turn_rest}
use Rattle.pf_journal.proofs.Examples.{any_up, equal}
use Rattle.pf_journal.proofs.Pages.{a_gives, b_gives, c_gives, d_gives, newest_gives, older_gives, x_gives}
use Rattle.pf_journal.proofs.WorkedWeaves.{IsSession}
use Rattle.pf_journal.specs.Report.{report}
use Rattle.pf_model.proofs.ScannedTokens.{are_tokens}

-- the selector of the deletion
up_selects : IsSelector [] (codes "up") (equal (codes "__name__") (codes "up") ∷ [])
unfolding encode_utf8 clamp
up_selects = (
  any_up,
  (
    record {
      is_tree = record {
        tokens = record { from = 0; to = 2; sort = token.word (codes "up") } ∷ [];
        known = record {
          written = record {
            shallow = record { cut = record { short = lit≤ tt; are_tokens = are_tokens (record { begins = (refl, refl, tt); whole = refl }) }; shallow = refl };
            written = select (record { metric = Some (codes "up"); braces = None }) None (record { offset = None; at = None; at_first = false });
            derived = record { fits = ((refl, refl), tt); lawful = (tt, tt, tt) };
          };
          known = refl;
        };
        times = refl;
        derives = record {
          written = select (record { metric = Some (codes "up"); braces = None }) None (record { offset = None; at = None; at_first = false });
          derived = record { fits = ((refl, refl), tt); lawful = (tt, tt, tt) };
          means = refl;
        };
      };
      low = lit≤ tt;
    },
    refl,
  ),
)

-- ---- a query that reads the end of its grid at each step, over two intervals

at_the_end_is_a_session : IsSession at_the_end_known at_the_end_journal at_the_end_scripts at_the_end_rest
unfolding clamp digits without_end_zeros
at_the_end_is_a_session = (
  (
    record { allowed = record { tenant = record { next = lit≤ tt; most = lit< tt }; judged = refl; counted = refl }; room = lit≤ tt; named = lit≤ tt },
    (
      record { allowed = record { tenant = record { next = lit≤ tt; most = lit< tt }; below = lit< tt; pinned = refl; aged = refl; floored = refl }; room = lit≤ tt; named = lit≤ tt },
      (
        record { allowed = record { coded = inl refl; stepped = inl refl; reused = record { at_once = λ h. cc; frozen = lit≤ tt } }; room = lit≤ tt; named = lit≤ tt },
        tt,
      ),
    ),
  ),
  (
    (
      record {
        woven = record {
          few = lit≤ tt;
          rising = (lit< tt, (lit< tt, (lit< tt, tt)));
          lined = (inl refl, (inr (inl refl), (inr (inr (inr (inl refl))), tt)));
          each = (
            record { matched = ((refl, x_gives), refl); roomy = lit≤ tt },
            (
              record { matched = ((refl, refl), refl); roomy = lit≤ tt },
              (
                record { matched = tt; roomy = tt },
                (
                  record { matched = (refl, refl); roomy = lit≤ tt },
                  tt,
                ),
              ),
            ),
          );
        };
        runs = (refl, refl);
      },
      tt,
    ),
    record { actors = lit≤ tt; five = inr (lit≤ tt); shown = lit≤ tt },
  ),
)

at_the_end_report : report at_the_end_known at_the_end_journal at_the_end_scripts at_the_end_rest ≡
    codes "client 0\n1 ingest acme taken 2 repeated 0 refused 0 skipped 0 entry 1\n2 ask q pin 1 place 1\n3 plan q cached 0 jobs 2\n4 answer q 200 cached 0 evaluated 3\n{\"status\":\"success\",\"data\":{\"resultType\":\"matrix\",\"result\":[{\"metric\":{\"__name__\":\"x\"},\"values\":[[0,\"5\"],[60,\"5\"],[120,\"5\"]]}]}}\njournal 3\n0 client 0 line 1 append acme entry 1\n1 client 0 line 2 ask acme pin 1 generation 0 floor 0\n2 client 0 line 4 answer 1 200\n"
unfolding digits escape_byte clamp
at_the_end_report = refl

-- ---- what a later asker keeps, and an earlier one takes as far as it may: ten of twelve steps

later_asker_is_a_session : IsSession later_asker_known later_asker_journal later_asker_scripts later_asker_rest
unfolding clamp digits without_end_zeros
later_asker_is_a_session = (
  (
    record { allowed = record { tenant = record { next = lit≤ tt; most = lit< tt }; judged = refl; counted = refl }; room = lit≤ tt; named = lit≤ tt },
    (
      record { allowed = record { tenant = record { next = lit≤ tt; most = lit< tt }; below = lit< tt; pinned = refl; aged = refl; floored = refl }; room = lit≤ tt; named = lit≤ tt },
      (
        record { allowed = record { tenant = record { next = lit≤ tt; most = lit< tt }; judged = refl; counted = refl }; room = lit≤ tt; named = lit≤ tt },
        (
          record { allowed = record { tenant = record { next = lit≤ tt; most = lit< tt }; judged = refl; counted = refl }; room = lit≤ tt; named = lit≤ tt },
          (
            record { allowed = record { tenant = record { next = lit≤ tt; most = lit< tt }; below = lit< tt; pinned = refl; aged = refl; floored = refl }; room = lit≤ tt; named = lit≤ tt },
            (
              record { allowed = record { coded = inl refl; stepped = inl refl; reused = record { at_once = λ h. cc; frozen = lit≤ tt } }; room = lit≤ tt; named = lit≤ tt },
              (
                record { allowed = record { coded = inl refl; stepped = inl refl; reused = record { at_once = λ h. cc; frozen = lit≤ tt } }; room = lit≤ tt; named = lit≤ tt },
                tt,
              ),
            ),
          ),
        ),
      ),
    ),
  ),
  (
    (
      record {
        woven = record {
          few = lit≤ tt;
          rising = (lit< tt, (lit< tt, (lit< tt, (lit< tt, (lit< tt, (lit< tt, (lit< tt, tt)))))));
          lined = (inl refl, (inr (inl refl), (inr (inr (inl refl)), (inr (inr (inr (inl refl))), (inr (inr (inr (inr (inl refl)))), (inr (inr (inr (inr (inr (inl refl))))), (inr (inr (inr (inr (inr (inr (inr (inl refl))))))), tt)))))));
          each = (
            record { matched = ((refl, a_gives), refl); roomy = lit≤ tt },
            (
              record { matched = ((refl, refl), refl); roomy = lit≤ tt },
              (
                record { matched = ((refl, b_gives), refl); roomy = lit≤ tt },
                (
                  record { matched = ((refl, c_gives), refl); roomy = lit≤ tt },
                  (
                    record { matched = ((refl, refl), refl); roomy = lit≤ tt },
                    (
                      record { matched = (refl, refl); roomy = lit≤ tt },
                      (
                        record { matched = tt; roomy = tt },
                        (
                          record { matched = (refl, refl); roomy = lit≤ tt },
                          tt,
                        ),
                      ),
                    ),
                  ),
                ),
              ),
            ),
          );
        };
        runs = (refl, refl);
      },
      tt,
    ),
    record { actors = lit≤ tt; five = inr (lit≤ tt); shown = lit≤ tt },
  ),
)

later_asker_report : report later_asker_known later_asker_journal later_asker_scripts later_asker_rest ≡
    codes "client 0\n1 ingest acme taken 2 repeated 0 refused 0 skipped 0 entry 1\n2 ask q1 pin 1 place 1\n3 ingest acme taken 1 repeated 0 refused 0 skipped 0 entry 2\n4 ingest acme taken 1 repeated 0 refused 0 skipped 0 entry 3\n5 ask q2 pin 3 place 4\n6 answer q2 200 cached 0 evaluated 13\n{\"status\":\"success\",\"data\":{\"resultType\":\"matrix\",\"result\":[{\"metric\":{\"__name__\":\"x\"},\"values\":[[2700,\"5\"],[3300,\"7\"],[3600,\"1\"]]}]}}\n7 plan q1 cached 10 jobs 1\n8 answer q1 200 cached 10 evaluated 3\n{\"status\":\"success\",\"data\":{\"resultType\":\"matrix\",\"result\":[{\"metric\":{\"__name__\":\"x\"},\"values\":[[2700,\"5\"],[3600,\"1\"]]}]}}\njournal 7\n0 client 0 line 1 append acme entry 1\n1 client 0 line 2 ask acme pin 1 generation 0 floor 3000000\n2 client 0 line 3 append acme entry 2\n3 client 0 line 4 append acme entry 3\n4 client 0 line 5 ask acme pin 3 generation 0 floor 3400000\n5 client 0 line 6 answer 4 200\n6 client 0 line 8 answer 1 200\n"
unfolding digits escape_byte clamp
later_asker_report = refl

-- ---- a window that reaches back: five of seven steps are kept

counted_is_a_session : IsSession counted_known counted_journal counted_scripts counted_rest
unfolding clamp digits without_end_zeros
counted_is_a_session = (
  (
    record { allowed = record { tenant = record { next = lit≤ tt; most = lit< tt }; judged = refl; counted = refl }; room = lit≤ tt; named = lit≤ tt },
    (
      record { allowed = record { tenant = record { next = lit≤ tt; most = lit< tt }; below = lit< tt; pinned = refl; aged = refl; floored = refl }; room = lit≤ tt; named = lit≤ tt },
      (
        record { allowed = record { coded = inl refl; stepped = inl refl; reused = record { at_once = λ h. cc; frozen = lit≤ tt } }; room = lit≤ tt; named = lit≤ tt },
        (
          record { allowed = record { tenant = record { next = lit≤ tt; most = lit< tt }; judged = refl; counted = refl }; room = lit≤ tt; named = lit≤ tt },
          (
            record { allowed = record { tenant = record { next = lit≤ tt; most = lit< tt }; below = lit< tt; pinned = refl; aged = refl; floored = refl }; room = lit≤ tt; named = lit≤ tt },
            (
              record { allowed = record { coded = inl refl; stepped = inl refl; reused = record { at_once = λ h. cc; frozen = lit≤ tt } }; room = lit≤ tt; named = lit≤ tt },
              tt,
            ),
          ),
        ),
      ),
    ),
  ),
  (
    (
      record {
        woven = record {
          few = lit≤ tt;
          rising = (lit< tt, (lit< tt, (lit< tt, (lit< tt, (lit< tt, (lit< tt, tt))))));
          lined = (inl refl, (inr (inl refl), (inr (inr (inl refl)), (inr (inr (inr (inl refl))), (inr (inr (inr (inr (inl refl)))), (inr (inr (inr (inr (inr (inl refl))))), tt))))));
          each = (
            record { matched = ((refl, newest_gives), refl); roomy = lit≤ tt },
            (
              record { matched = ((refl, refl), refl); roomy = lit≤ tt },
              (
                record { matched = (refl, refl); roomy = lit≤ tt },
                (
                  record { matched = ((refl, older_gives), refl); roomy = lit≤ tt },
                  (
                    record { matched = ((refl, refl), refl); roomy = lit≤ tt },
                    (
                      record { matched = (refl, refl); roomy = lit≤ tt },
                      tt,
                    ),
                  ),
                ),
              ),
            ),
          );
        };
        runs = (refl, refl);
      },
      tt,
    ),
    record { actors = lit≤ tt; five = inr (lit≤ tt); shown = lit≤ tt },
  ),
)

counted_report : report counted_known counted_journal counted_scripts counted_rest ≡
    codes "client 0\n1 ingest acme taken 1 repeated 0 refused 0 skipped 0 entry 1\n2 ask q pin 1 place 1\n3 answer q 200 cached 0 evaluated 7\n{\"status\":\"success\",\"data\":{\"resultType\":\"matrix\",\"result\":[{\"metric\":{},\"values\":[[3600,\"1\"]]}]}}\n4 ingest acme taken 1 repeated 0 refused 0 skipped 0 entry 2\n5 ask r pin 2 place 4\n6 answer r 200 cached 5 evaluated 2\n{\"status\":\"success\",\"data\":{\"resultType\":\"matrix\",\"result\":[{\"metric\":{},\"values\":[[3600,\"2\"]]}]}}\njournal 6\n0 client 0 line 1 append acme entry 1\n1 client 0 line 2 ask acme pin 1 generation 0 floor 3000000\n2 client 0 line 3 answer 1 200\n3 client 0 line 4 append acme entry 2\n4 client 0 line 5 ask acme pin 2 generation 0 floor 3000000\n5 client 0 line 6 answer 4 200\n"
unfolding digits escape_byte clamp
counted_report = refl

-- ---- what is kept serves a query that was asked before a deletion, and none behind it

deleted_is_a_session : IsSession deleted_known deleted_journal deleted_scripts deleted_rest
unfolding clamp digits without_end_zeros
deleted_is_a_session = (
  (
    record { allowed = record { tenant = record { next = lit≤ tt; most = lit< tt }; judged = refl; counted = refl }; room = lit≤ tt; named = lit≤ tt },
    (
      record { allowed = record { tenant = record { next = lit≤ tt; most = lit< tt }; below = lit< tt; pinned = refl; aged = refl; floored = refl }; room = lit≤ tt; named = lit≤ tt },
      (
        record { allowed = record { coded = inl refl; stepped = inl refl; reused = record { at_once = λ h. cc; frozen = lit≤ tt } }; room = lit≤ tt; named = lit≤ tt },
        (
          record { allowed = record { tenant = record { next = lit≤ tt; most = lit< tt }; below = lit< tt; pinned = refl; aged = refl; floored = refl }; room = lit≤ tt; named = lit≤ tt },
          (
            record { allowed = record { tenant = record { next = lit≤ tt; most = lit< tt }; aged = refl; counted = refl }; room = lit≤ tt; named = lit≤ tt },
            (
              record { allowed = record { coded = inl refl; stepped = inl refl; reused = record { at_once = λ h. cc; frozen = lit≤ tt } }; room = lit≤ tt; named = lit≤ tt },
              (
                record { allowed = record { tenant = record { next = lit≤ tt; most = lit< tt }; below = lit< tt; pinned = refl; aged = refl; floored = refl }; room = lit≤ tt; named = lit≤ tt },
                (
                  record { allowed = record { coded = inl refl; stepped = inl refl; reused = record { at_once = λ h. cc; frozen = lit≤ tt } }; room = lit≤ tt; named = lit≤ tt },
                  tt,
                ),
              ),
            ),
          ),
        ),
      ),
    ),
  ),
  (
    (
      record {
        woven = record {
          few = lit≤ tt;
          rising = (lit< tt, (lit< tt, (lit< tt, (lit< tt, (lit< tt, (lit< tt, (lit< tt, (lit< tt, tt))))))));
          lined = (inl refl, (inr (inl refl), (inr (inr (inl refl)), (inr (inr (inr (inl refl))), (inr (inr (inr (inr (inl refl)))), (inr (inr (inr (inr (inr (inl refl))))), (inr (inr (inr (inr (inr (inr (inl refl)))))), (inr (inr (inr (inr (inr (inr (inr (inl refl))))))), tt))))))));
          each = (
            record { matched = ((refl, d_gives), refl); roomy = lit≤ tt },
            (
              record { matched = ((refl, refl), refl); roomy = lit≤ tt },
              (
                record { matched = (refl, refl); roomy = lit≤ tt },
                (
                  record { matched = ((refl, refl), refl); roomy = lit≤ tt },
                  (
                    record { matched = ((refl, ((lit≤ tt, lit≤ tt), up_selects, refl, refl)), refl); roomy = lit≤ tt },
                    (
                      record { matched = (refl, refl); roomy = lit≤ tt },
                      (
                        record { matched = ((refl, refl), refl); roomy = lit≤ tt },
                        (
                          record { matched = (refl, refl); roomy = lit≤ tt },
                          tt,
                        ),
                      ),
                    ),
                  ),
                ),
              ),
            ),
          );
        };
        runs = (refl, refl);
      },
      tt,
    ),
    record { actors = lit≤ tt; five = inr (lit≤ tt); shown = lit≤ tt },
  ),
)

deleted_report : report deleted_known deleted_journal deleted_scripts deleted_rest ≡
    codes "client 0\n1 ingest acme taken 2 repeated 0 refused 0 skipped 0 entry 1\n2 ask p pin 1 place 1\n3 answer p 200 cached 0 evaluated 1\n{\"status\":\"success\",\"data\":{\"resultType\":\"matrix\",\"result\":[{\"metric\":{\"__name__\":\"up\"},\"values\":[[60,\"1\"]]}]}}\n4 ask q pin 1 place 3\n5 delete acme generation 1 entry 2\n6 answer q 200 cached 1 evaluated 0\n{\"status\":\"success\",\"data\":{\"resultType\":\"matrix\",\"result\":[{\"metric\":{\"__name__\":\"up\"},\"values\":[[60,\"1\"]]}]}}\n7 ask r pin 2 place 6\n8 answer r 200 cached 0 evaluated 1\n{\"status\":\"success\",\"data\":{\"resultType\":\"matrix\",\"result\":[]}}\njournal 8\n0 client 0 line 1 append acme entry 1\n1 client 0 line 2 ask acme pin 1 generation 0 floor 3000000\n2 client 0 line 3 answer 1 200\n3 client 0 line 4 ask acme pin 1 generation 0 floor 3000000\n4 client 0 line 5 delete acme entry 2 generation 1\n5 client 0 line 6 answer 3 200\n6 client 0 line 7 ask acme pin 2 generation 1 floor 3000000\n7 client 0 line 8 answer 6 200\n"
unfolding digits escape_byte clamp
deleted_report = refl

-- ---- a tenant that may have two open queries, and another one

two_open_is_a_session : IsSession two_open_known two_open_journal two_open_scripts two_open_rest
unfolding clamp digits without_end_zeros
two_open_is_a_session = (
  (
    record { allowed = record { tenant = record { next = lit≤ tt; most = lit< tt }; below = lit< tt; pinned = refl; aged = refl; floored = refl }; room = lit≤ tt; named = lit≤ tt },
    (
      record { allowed = record { tenant = record { next = lit≤ tt; most = lit< tt }; below = lit< tt; pinned = refl; aged = refl; floored = refl }; room = lit≤ tt; named = lit≤ tt },
      (
        record { allowed = record { known = lit< tt; counted = refl; most = refl }; room = lit≤ tt; named = lit≤ tt },
        (
          record { allowed = record { tenant = record { next = lit≤ tt; most = lit< tt }; below = lit< tt; pinned = refl; aged = refl; floored = refl }; room = lit≤ tt; named = lit≤ tt },
          (
            record { allowed = record { coded = inl refl; stepped = inl refl; reused = record { at_once = λ h. cc; frozen = lit≤ tt } }; room = lit≤ tt; named = lit≤ tt },
            (
              record { allowed = record { tenant = record { next = lit≤ tt; most = lit< tt }; below = lit< tt; pinned = refl; aged = refl; floored = refl }; room = lit≤ tt; named = lit≤ tt },
              (
                record { allowed = record { coded = inl refl; stepped = inl refl; reused = record { at_once = λ h. cc; frozen = lit≤ tt } }; room = lit≤ tt; named = lit≤ tt },
                tt,
              ),
            ),
          ),
        ),
      ),
    ),
  ),
  (
    (
      record {
        woven = record {
          few = lit≤ tt;
          rising = (lit< tt, (lit< tt, (lit< tt, (lit< tt, (lit< tt, (lit< tt, (lit< tt, tt)))))));
          lined = (inl refl, (inr (inl refl), (inr (inr (inl refl)), (inr (inr (inr (inl refl))), (inr (inr (inr (inr (inr (inl refl))))), (inr (inr (inr (inr (inr (inr (inl refl)))))), (inr (inr (inr (inr (inr (inr (inr (inl refl))))))), tt)))))));
          each = (
            record { matched = ((refl, refl), refl); roomy = lit≤ tt },
            (
              record { matched = ((refl, refl), refl); roomy = lit≤ tt },
              (
                record { matched = ((refl, tt), refl); roomy = lit≤ tt },
                (
                  record { matched = ((refl, refl), refl); roomy = lit≤ tt },
                  (
                    record { matched = tt; roomy = tt },
                    (
                      record { matched = (refl, refl); roomy = lit≤ tt },
                      (
                        record { matched = ((refl, refl), refl); roomy = lit≤ tt },
                        (
                          record { matched = (refl, refl); roomy = lit≤ tt },
                          tt,
                        ),
                      ),
                    ),
                  ),
                ),
              ),
            ),
          );
        };
        runs = (refl, refl);
      },
      tt,
    ),
    record { actors = lit≤ tt; five = inr (lit≤ tt); shown = lit≤ tt },
  ),
)

two_open_report : report two_open_known two_open_journal two_open_scripts two_open_rest ≡
    codes "client 0\n1 ask a1 pin 0 place 0\n2 ask a2 pin 0 place 1\n3 ask a3 refused 429\n4 ask b1 pin 0 place 3\n5 answer a3 429 cached 0 evaluated 0\n{\"status\":\"error\",\"errorType\":\"too_many_requests\",\"error\":\"too many outstanding requests\"}\n6 answer a1 200 cached 0 evaluated 1\n{\"status\":\"success\",\"data\":{\"resultType\":\"matrix\",\"result\":[{\"metric\":{},\"values\":[[0,\"1\"]]}]}}\n7 ask a4 pin 0 place 5\n8 answer a4 200 cached 1 evaluated 0\n{\"status\":\"success\",\"data\":{\"resultType\":\"matrix\",\"result\":[{\"metric\":{},\"values\":[[0,\"1\"]]}]}}\njournal 7\n0 client 0 line 1 ask acme pin 0 generation 0 floor none\n1 client 0 line 2 ask acme pin 0 generation 0 floor none\n2 client 0 line 3 full acme outstanding 2\n3 client 0 line 4 ask beta pin 0 generation 0 floor none\n4 client 0 line 6 answer 0 200\n5 client 0 line 7 ask acme pin 0 generation 0 floor none\n6 client 0 line 8 answer 5 200\n"
unfolding digits escape_byte clamp
two_open_report = refl

-- ---- a cache of one key, which two tenants use in turn

in_turn_is_a_session : IsSession in_turn_known in_turn_journal in_turn_scripts in_turn_rest
unfolding clamp digits without_end_zeros
in_turn_is_a_session = (
  (
    record { allowed = record { tenant = record { next = lit≤ tt; most = lit< tt }; judged = refl; counted = refl }; room = lit≤ tt; named = lit≤ tt },
    (
      record { allowed = record { tenant = record { next = lit≤ tt; most = lit< tt }; judged = refl; counted = refl }; room = lit≤ tt; named = lit≤ tt },
      (
        record { allowed = record { tenant = record { next = lit≤ tt; most = lit< tt }; below = lit< tt; pinned = refl; aged = refl; floored = refl }; room = lit≤ tt; named = lit≤ tt },
        (
          record { allowed = record { coded = inl refl; stepped = inl refl; reused = record { at_once = λ h. cc; frozen = lit≤ tt } }; room = lit≤ tt; named = lit≤ tt },
          (
            record { allowed = record { tenant = record { next = lit≤ tt; most = lit< tt }; below = lit< tt; pinned = refl; aged = refl; floored = refl }; room = lit≤ tt; named = lit≤ tt },
            (
              record { allowed = record { coded = inl refl; stepped = inl refl; reused = record { at_once = λ h. cc; frozen = lit≤ tt } }; room = lit≤ tt; named = lit≤ tt },
              (
                record { allowed = record { tenant = record { next = lit≤ tt; most = lit< tt }; below = lit< tt; pinned = refl; aged = refl; floored = refl }; room = lit≤ tt; named = lit≤ tt },
                (
                  record { allowed = record { coded = inl refl; stepped = inl refl; reused = record { at_once = λ h. cc; frozen = lit≤ tt } }; room = lit≤ tt; named = lit≤ tt },
                  (
                    record { allowed = record { tenant = record { next = lit≤ tt; most = lit< tt }; below = lit< tt; pinned = refl; aged = refl; floored = refl }; room = lit≤ tt; named = lit≤ tt },
                    (
                      record { allowed = record { coded = inl refl; stepped = inl refl; reused = record { at_once = λ h. cc; frozen = lit≤ tt } }; room = lit≤ tt; named = lit≤ tt },
                      tt,
                    ),
                  ),
                ),
              ),
            ),
          ),
        ),
      ),
    ),
  ),
  (
    (
      record {
        woven = record {
          few = lit≤ tt;
          rising = (lit< tt, (lit< tt, (lit< tt, (lit< tt, (lit< tt, (lit< tt, (lit< tt, (lit< tt, (lit< tt, (lit< tt, tt))))))))));
          lined = (inl refl, (inr (inl refl), (inr (inr (inl refl)), (inr (inr (inr (inl refl))), (inr (inr (inr (inr (inl refl)))), (inr (inr (inr (inr (inr (inl refl))))), (inr (inr (inr (inr (inr (inr (inl refl)))))), (inr (inr (inr (inr (inr (inr (inr (inl refl))))))), (inr (inr (inr (inr (inr (inr (inr (inr (inl refl)))))))), (inr (inr (inr (inr (inr (inr (inr (inr (inr (inl refl))))))))), tt))))))))));
          each = (
            record { matched = ((refl, newest_gives), refl); roomy = lit≤ tt },
            (
              record { matched = ((refl, newest_gives), refl); roomy = lit≤ tt },
              (
                record { matched = ((refl, refl), refl); roomy = lit≤ tt },
                (
                  record { matched = (refl, refl); roomy = lit≤ tt },
                  (
                    record { matched = ((refl, refl), refl); roomy = lit≤ tt },
                    (
                      record { matched = (refl, refl); roomy = lit≤ tt },
                      (
                        record { matched = ((refl, refl), refl); roomy = lit≤ tt },
                        (
                          record { matched = (refl, refl); roomy = lit≤ tt },
                          (
                            record { matched = ((refl, refl), refl); roomy = lit≤ tt },
                            (
                              record { matched = (refl, refl); roomy = lit≤ tt },
                              tt,
                            ),
                          ),
                        ),
                      ),
                    ),
                  ),
                ),
              ),
            ),
          );
        };
        runs = (refl, refl);
      },
      tt,
    ),
    record { actors = lit≤ tt; five = inr (lit≤ tt); shown = lit≤ tt },
  ),
)

in_turn_report : report in_turn_known in_turn_journal in_turn_scripts in_turn_rest ≡
    codes "client 0\n1 ingest acme taken 1 repeated 0 refused 0 skipped 0 entry 1\n2 ingest beta taken 1 repeated 0 refused 0 skipped 0 entry 1\n3 ask a pin 1 place 2\n4 answer a 200 cached 0 evaluated 7\n{\"status\":\"success\",\"data\":{\"resultType\":\"matrix\",\"result\":[{\"metric\":{},\"values\":[[3600,\"1\"]]}]}}\n5 ask b pin 1 place 4\n6 answer b 200 cached 0 evaluated 7\n{\"status\":\"success\",\"data\":{\"resultType\":\"matrix\",\"result\":[{\"metric\":{},\"values\":[[3600,\"1\"]]}]}}\n7 ask c pin 1 place 6\n8 answer c 200 cached 0 evaluated 7\n{\"status\":\"success\",\"data\":{\"resultType\":\"matrix\",\"result\":[{\"metric\":{},\"values\":[[3600,\"1\"]]}]}}\n9 ask d pin 1 place 8\n10 answer d 200 cached 0 evaluated 7\n{\"status\":\"success\",\"data\":{\"resultType\":\"matrix\",\"result\":[{\"metric\":{},\"values\":[[3600,\"1\"]]}]}}\njournal 10\n0 client 0 line 1 append acme entry 1\n1 client 0 line 2 append beta entry 1\n2 client 0 line 3 ask acme pin 1 generation 0 floor 3000000\n3 client 0 line 4 answer 2 200\n4 client 0 line 5 ask beta pin 1 generation 0 floor 3000000\n5 client 0 line 6 answer 4 200\n6 client 0 line 7 ask acme pin 1 generation 0 floor 3000000\n7 client 0 line 8 answer 6 200\n8 client 0 line 9 ask beta pin 1 generation 0 floor 3000000\n9 client 0 line 10 answer 8 200\n"
unfolding digits escape_byte clamp
in_turn_report = refl
