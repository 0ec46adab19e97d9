-- `queue_streams::events::put_event` meets its contract: the second and the third word are within the list that has those before. Assumes nothing.
use Rattle.queue_streams.specs.Events.{put_event}
use Rattle.std.proofs.Common.{rules}
use Rattle.queue_streams.proofs.events.put_event.Goals as goal

pub returns : goal.returns
unfolding put_event
returns c = search rules
