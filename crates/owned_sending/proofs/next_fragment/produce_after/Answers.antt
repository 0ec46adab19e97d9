-- `owned_sending::next_fragment::produce_after` meets its contract: each way out is what the definition leaves, since passing over and the head's test say so (proofs/Answers.antt). Assumes nothing.
use Rattle.owned_sending.proofs.Answers.{after_nothing, head_may_go, after_head}
use Rattle.std.proofs.Common.{refl}
use Rattle.owned_sending.proofs.next_fragment.produce_after.Goals as goal

pub hand_own-h-requires : goal.hand_own-h-requires
hand_own-h-requires c = head_may_go c.args.queue.now c.args.store.now c.args.events.now c.args.buffer.now c.args.time c.args.size c.args.k c.requires.0 _ _ _ c.in-Head.ensures _ _ _ _ refl c.requires.1

pub returns-in-Nothing : goal.returns-in-Nothing
returns-in-Nothing c = after_nothing _ _ _ _ _ _ _ c.requires.0 _ _ _ c.in-Nothing.ensures _ refl

pub returns-in-Head : goal.returns-in-Head
returns-in-Head c = after_head _ _ _ _ _ _ _ c.requires.0 _ _ _ c.in-Head.ensures _ _ _ _ refl c.requires.1 _ _ _ _ _ c.hand_own-h.ensures
