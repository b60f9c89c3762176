use Rattle.std.proofs.Common.{◌≡◌, rules, refl, arith, Some, None, true, false}
use Rattle.pf_query.proofs.Finishing.{asked_data, asked_here, asked_stop, asked_unplanned, gathered_is, gathered_table, ready, same_self, the_given, the_in_hand, the_queued, the_work, the_work_is}
use Rattle.pf_query.proofs.table.Table.collect.Goals as goal

pub returns-in-Some-clause-collected : goal.returns-in-Some-clause-collected
returns-in-Some-clause-collected c =
    let old = c.args.self.now in
    let query = c.args.query in
    let s = c.in_ok-state.state in (
      asked_data old query s (search rules) c.requires,
      asked_here old query s (search rules) c.requires,
      (asked_stop old query s (search rules) c.requires (Some c.in-Some.why) (search rules), same_self old),
    )

pub returns-then-not-state-clause-collected : goal.returns-then-not-state-clause-collected
returns-then-not-state-clause-collected c =
    let old = c.args.self.now in
    let query = c.args.query in
    let s = c.in_ok-state.state in (
      asked_data old query s (search rules) c.requires,
      asked_here old query s (search rules) c.requires,
      (
        asked_stop old query s (search rules) c.requires None (search rules),
        asked_unplanned old query s (search rules) c.requires (search rules),
        same_self old,
      ),
    )

pub returns-then-open-gt0-clause-collected : goal.returns-then-open-gt0-clause-collected
returns-then-open-gt0-clause-collected c =
    let old = c.args.self.now in
    let query = c.args.query in
    let s = c.in_ok-state.state in
    let n : s.stop ≡ None = search rules in
    let p : s.planned ≡ true = search rules in
    let some = c.if-open-gt0.true in (
      asked_data old query s (search rules) c.requires,
      asked_here old query s (search rules) c.requires,
      (
        the_work old query s (search rules) c.requires n p,
        asked_stop old query s (search rules) c.requires None n,
        the_work_is old query s (search rules) c.requires n p,
        (the_queued old query s (search rules) c.requires n p, the_in_hand old query s (search rules) c.requires n p),
        omega (arith, some),
        same_self old,
      ),
    )

pub returns-then-state-clause-collected : goal.returns-then-state-clause-collected
returns-then-state-clause-collected c =
    let old = c.args.self.now in
    let query = c.args.query in
    let s = c.in_ok-state.state in
    let n : s.stop ≡ None = search rules in
    let p : s.planned ≡ true = search rules in
    let none = c.if-open-gt0.false in
    let queued = the_queued old query s (search rules) c.requires n p in
    let in_hand = the_in_hand old query s (search rules) c.requires n p in (
      asked_data old query s (search rules) c.requires,
      asked_here old query s (search rules) c.requires,
      (
        the_work old query s (search rules) c.requires n p,
        asked_stop old query s (search rules) c.requires None n,
        the_work_is old query s (search rules) c.requires n p,
        (omega (arith, queued, none), omega (arith, in_hand, none)),
        the_given old query s (search rules) c.requires n p true (search rules),
        same_self old,
      ),
    )

pub hand_out-requires : goal.hand_out-requires
hand_out-requires c =
    let none = c.if-open-gt0.false in
    ready c.args.self.now c.args.query c.in_ok-state.state (search rules) c.requires (search rules) (search rules) (omega (arith, none)) (omega (arith, none))
    (search rules)

pub returns-clause-collected : goal.returns-clause-collected
returns-clause-collected c =
    let old = c.args.self.now in
    let query = c.args.query in
    let s = c.in_ok-state.state in
    let n : s.stop ≡ None = search rules in
    let p : s.planned ≡ true = search rules in
    let g : s.given ≡ false = search rules in
    let none = c.if-open-gt0.false in
    let queued = the_queued old query s (search rules) c.requires n p in
    let in_hand = the_in_hand old query s (search rules) c.requires n p in (
      asked_data old query s (search rules) c.requires,
      asked_here old query s (search rules) c.requires,
      (
        the_work old query s (search rules) c.requires n p,
        asked_stop old query s (search rules) c.requires None n,
        the_work_is old query s (search rules) c.requires n p,
        (omega (arith, queued, none), omega (arith, in_hand, none)),
        the_given old query s (search rules) c.requires n p false g,
        gathered_is old query s (search rules) c.requires n p (omega (arith, none)) (omega (arith, none)) g _ c.in_ok-gathered.ensures.after refl
            c.in_ok-gathered.gathered c.in_ok-gathered.ensures.gathered,
      ),
    )

pub returns-clause-table : goal.returns-clause-table
returns-clause-table c =
    let none = c.if-open-gt0.false in
    gathered_table c.args.self.now c.args.query c.in_ok-state.state (search rules) c.requires (search rules) (search rules) (omega (arith, none))
    (omega (arith, none)) (search rules) _ c.in_ok-gathered.ensures.after refl c.requires.queues
