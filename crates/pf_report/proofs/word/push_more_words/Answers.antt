use Rattle.std.proofs.Common.{◌≡◌, rules, arith, length, vec_len}
use Rattle.std.proofs.lemmas.Grind.{common_steps}
use Rattle.pf_report.specs.Words.{word_text}
use Rattle.pf_report.proofs.Joined.{kept_on}
use Rattle.pf_report.proofs.Lines.{blank_step}
use Rattle.pf_report.proofs.word.push_more_words.Goals as goal

pub loop-word-preserved : goal.loop-word-preserved
loop-word-preserved c =
    let before : length c.args.out.now.items ≡ vec_len c.args.out.now = first_of (search rules, grind (arith, common_steps)) in
    let now : length c.loop-word.out.items ≡ vec_len c.loop-word.out = first_of (search rules, grind (arith, common_steps)) in
    record {
      ok = blank_step word_text c.args.words.now c.loop-word.word-index _ _ _ _ c.loop-word-test.true c.in_ok-push_next_word.ensures.ok c.loop-word.invariant.ok;
      kept = kept_on _ _ _ _ _ c.loop-word.invariant.kept c.in_ok-push_next_word.ensures.kept before now;
    }

pub returns-in_err-push_next_word-clause-kept : goal.returns-in_err-push_next_word-clause-kept
returns-in_err-push_next_word-clause-kept c =
    let before : length c.args.out.now.items ≡ vec_len c.args.out.now = first_of (search rules, grind (arith, common_steps)) in
    let now : length c.loop-word.out.items ≡ vec_len c.loop-word.out = first_of (search rules, grind (arith, common_steps)) in
    kept_on _ _ _ _ _ c.loop-word.invariant.kept c.push_next_word.ensures.kept before now
