-- A query is offered. This project's own.
use Rattle.std.proofs.Common.{◌≡◌, ◌∙◌, ℕ, Option, Some, None, refl, sym, ap, subst, arith}
use Rattle.std.specs.Option.{option_map}
use Rattle.std.specs.Prelude.{MatchOption}
use Rattle.pf_query.specs.Entries.{offered_entry, with_change}
use Rattle.pf_query.specs.Queueing.{AreQueues, hands_in, tries_left, waiting_in}
use Rattle.pf_query.specs.Tables.{IsCounted, IsOffered, IsSameTable, IsTable, Offers, data_of, entry_in, hands_with, jobs_in}
use Rattle.pf_query.specs.declared.entry.Entry.{Entry}
use Rattle.pf_query.specs.declared.table.Table.{Table}
use Rattle.pf_query.proofs.Counting.{counted_after}
use Rattle.pf_query.proofs.Entering.{data_else, data_here, data_sets, raw_else, raw_here, raw_none}
use Rattle.pf_query.proofs.Opening.{agree_offered}
use Rattle.pf_query.proofs.Tabled.{are_same, one_entry, raw_of, same_table, table_same}
use Rattle.pf_query.proofs.Trying.{fewer_same, keeps_tried, tried_after}

module _ (old new : Table) (query : ℕ) (set : (r : ℕ) → raw_of new r ≡ with_change query offered_entry (raw_of old) r) (same : new.queues ≡ old.queues) where
  is_offered_by : (o : Option Entry) → raw_of old query ≡ o → MatchOption (option_map data_of o) (IsSameTable old new) (λ e. Offers old query e new)
  is_offered_by None h =
      same_table old new (are_same old.queues new.queues same) (ap tries_left same) (raw_none (raw_of old) (raw_of new) query offered_entry h set)
  is_offered_by (Some e) h = record {
    entries = data_sets (raw_of old) (raw_of new) query offered_entry e h set;
    queues = are_same old.queues new.queues same;
    tries = ap tries_left same;
    tried = keeps_tried (raw_of old) (raw_of new) query offered_entry set (λ e. refl);
  }

  pub is_offered : IsOffered old query new
  is_offered = is_offered_by (raw_of old query) refl

  table_offered_by : (o : Option Entry) → raw_of old query ≡ o → IsTable old → AreQueues new.queues → IsTable new
  table_offered_by None h t q =
      table_same old new t q (are_same old.queues new.queues same) (raw_none (raw_of old) (raw_of new) query offered_entry h set)
  table_offered_by (Some e) h t q =
      let same_queues = are_same old.queues new.queues same in
      let u = e.tenant in
      record {
        queues = q;
        agree = agree_offered (entry_in old) (entry_in new) old.queues new.queues t.agree query (data_of e) (ap (λ (o : Option Entry). option_map data_of o) h)
            (data_here (raw_of old) (raw_of new) query offered_entry e h set) (data_else (raw_of old) (raw_of new) query offered_entry e h set) same_queues;
        counted = counted_after (raw_of old) (raw_of new) (waiting_in old.queues) (waiting_in new.queues) (hands_in old.queues) (hands_in new.queues) query u
            t.counted (raw_else (raw_of old) (raw_of new) query offered_entry e h set)
            (λ v d. (same_queues.queues v).waiting) (λ v d. (same_queues.queues v).hands)
            (λ p d. ap (λ js. jobs_in p js) (same_queues.queues u).waiting) (λ p d. ap (λ xs. hands_with p xs) (same_queues.queues u).hands)
            (λ x k m.
            let is : offered_entry e ≡ x = one_entry (offered_entry e) x (sym (raw_here (raw_of old) (raw_of new) query offered_entry e h set) ∙ k) in
            let count = t.counted query e h (ap (λ (y : Entry). y.stop) is ∙ m) in
            subst (λ (y : Entry). IsCounted query (waiting_in new.queues) (hands_in new.queues) y) is
            (record {
              queued = count.queued ∙ sym (ap (λ js. jobs_in query js) (same_queues.queues u).waiting);
              in_hand = count.in_hand ∙ sym (ap (λ xs. hands_with query xs) (same_queues.queues u).hands);
              few = count.few;
            }));
        tried = tried_after (raw_of old) (raw_of new) query offered_entry set old.queues new.queues t.tried
            (fewer_same old.queues new.queues same_queues) (λ e. refl) (λ e. refl) (λ e. omega arith);
      }

  pub offered_table : IsTable old → AreQueues new.queues → IsTable new
  offered_table t q = table_offered_by (raw_of old query) refl t q
