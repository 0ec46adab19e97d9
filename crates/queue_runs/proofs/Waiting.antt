-- An open stream waits exactly while the amount that the question answers is above 0, on the code. Assumes nothing.
use mathlib.Core.Path.{◌∙◌}
use Rattle.queue_model.specs.Questions.{amount_of}
use Rattle.queue_model.specs.Waiting as model
use Rattle.queue_model.proofs.Invariant.Serving as serving
use Rattle.linked_streams.proofs.Asks.{amount_asked}
use Rattle.queue_runs.specs.Meaning.{queue_of}
use Rattle.queue_runs.specs.Creation.{options_with}
use Rattle.queue_runs.specs.Waiting.{WaitingSeen}
use Rattle.queue_runs.proofs.Demand3.{stands}
use Rattle.queue_runs.proofs.Account.{amount_answer}

pub waiting_seen : WaitingSeen
unfolding model.WaitingSeen
waiting_seen a len s k r =
    let n = stands a len s r in
    record {
      amount = amount_of (queue_of s) k;
      answers = amount_asked s.words s.store n.good k ∙ amount_answer k (queue_of s);
      waits_by = serving.waiting_seen (options_with a len) (queue_of s) k n.reachable;
    }
