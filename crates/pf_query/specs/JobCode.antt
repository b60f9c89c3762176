-- How the jobs of one tenant are told from others where a model's value is of them: this project's own.
use Rattle.std.specs.Prelude.{List, refl}
use Rattle.std.specs.Coded.{Coded, code_by, coded×, coded_list}
use Rattle.pf_query.specs.Jobs.{QueueData}
use Rattle.pf_query.specs.contracts.job.Hand as hand
use Rattle.pf_query.specs.contracts.job.Job as job
use Rattle.pf_query.specs.declared.job.Hand.{Hand}
use Rattle.pf_query.specs.declared.job.Job.{Job}

abbrev pub queue_code : Coded QueueData
queue_code =
    code_by (List Job × List Hand) (coded× (coded_list job.the_row.coded) (coded_list hand.the_row.coded)) (λ q. (q.waiting, q.hands))
    (λ p. record { waiting = p.0; hands = p.1 }) (λ _. refl)
