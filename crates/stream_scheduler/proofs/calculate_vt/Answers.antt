-- Each arm is the cost by what the word says.
use Rattle.std.proofs.Common.{◌≡◌, ap, sym, ◌∙◌}
use Rattle.queue_words.specs.declared.active.SchedulingParameters.{SchedulingParameters}
use Rattle.queue_model.specs.Scheduler.{cost}
use Rattle.stream_scheduler.specs.Rows.{advanced, weight_at, weight_of_words}
use Rattle.stream_scheduler.proofs.calculate_vt.Goals as goal
use Rattle.stream_scheduler.proofs.calculate_vt.Goals.{in-RoundRobin, in-WeightedFairQueuing}

pub returns : goal.returns
unfolding advanced cost
returns c =
    let by_word = λ (p : SchedulingParameters) (e : c.from.result ≡ p). ap (λ (q : SchedulingParameters). cost (weight_of_words q) c.args.bytes) (sym e ∙ c.from.ensures) in
    let x : c.match-from.increment ≡ cost (weight_at c.args.parameters) c.args.bytes =
    elim c.match-from.branch [
      | in-RoundRobin w ↦ w.increment-is ∙ by_word _ w.in-RoundRobin.is
      | in-WeightedFairQueuing w ↦ w.increment-is ∙ w.weighted_cost-increment.ensures ∙ by_word _ w.in-WeightedFairQueuing.is
    ] in
    rw (c.saturating_add.ensures, x)
