use Rattle.std.proofs.Common.{rules, true, false}
use Rattle.pf_io.specs.InMemory.{contents}
use Rattle.pf_io.proofs.Sureness.{sure_stays}
use Rattle.pf_io.proofs.memory_files.MemFilesFiles.read.Goals as goal

pub returns-in-Err-Failed-clause-kept_sure : goal.returns-in-Err-Failed-clause-kept_sure
returns-in-Err-Failed-clause-kept_sure c = sure_stays c.args.self.now (record { files = contents c.self.inside.files.items; failing = c.self.inside.failing.items; calls = c.one_more-self-inside.result; faults = c.one_more-self-inside-in-Err-Failed.result; failed = true }) (search rules) (search rules) (search rules)

pub returns-else-is_listed : goal.returns-else-is_listed
returns-else-is_listed c = record {
  contents = search rules;
  within = search rules;
  too_long = search rules;
  failed = search rules;
  counted = search rules;
  sure = search rules;
  lost = search rules;
  last_failed = search rules;
  last_done = search rules;
  kept = search rules;
  kept_sure = sure_stays c.args.self.now (record { files = contents c.self.inside.files.items; failing = c.self.inside.failing.items; calls = c.one_more-self-inside.result; faults = c.self.inside.faults; failed = false }) (search rules) (search rules) (search rules);
  kept_lost = search rules;
  listed = search rules;
  missing = search rules;
  cause = search rules;
  called = search rules;
  risen = search rules;
  steady = search rules;
  same_files = search rules;
  same_failing = search rules;
}

pub returns-else-is_listed-2-clause-kept_sure : goal.returns-else-is_listed-2-clause-kept_sure
returns-else-is_listed-2-clause-kept_sure c = sure_stays c.args.self.now (record { files = contents c.self.inside.files.items; failing = c.self.inside.failing.items; calls = c.one_more-self-inside.result; faults = c.self.inside.faults; failed = false }) (search rules) (search rules) (search rules)
