use mathlib.Core.Path.{ap, ◌∙◌}
use Rattle.queue_words.specs.Header.{scheduler_at}
use Rattle.queue_messages.proofs.Tested.{room_kept, linked_scheduler, counted_scheduler}
use Rattle.queue_messages.proofs.adding.hang.Goals as goal

-- `queue_messages::adding::hang` meets its contract: its three parts, one after the other; the first two leave the scheduler alone. Assumes nothing.
pub start-requires : goal.start-requires
start-requires c =
    let linked = ap scheduler_at c.link_last.ensures ∙ linked_scheduler _ _ _ _ _ in
    room_kept _ _ _ (ap scheduler_at c.count_message.ensures ∙ counted_scheduler _ _ _ ∙ linked) c.requires.2
