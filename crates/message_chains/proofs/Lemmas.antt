-- A scheduler that refuses has changed nothing. Assumes nothing.
use mathlib.Core.Path.{◌≡◌, sym, ap, ◌∙◌}
use mathlib.Core.Bool.{Bool, true, false}
use mathlib.Core.List.{List}
use Prim.Native.Nat.{ℕ}
use Rattle.queue_words.specs.Flags.{pick}
use Rattle.queue_words.specs.Streams.{is_pending}
use Rattle.queue_words.specs.declared.streams.OutgoingStream.{OutgoingStream}
use Rattle.stream_scheduler.specs.Words.{Outcome, outcome}
use Rattle.stream_scheduler.proofs.Frames.{Kept, kept_remove, kept_set}
use Rattle.message_chains.specs.Dropping.{scheduled_behind}

kept_pick : (ws : List ℕ) (b : Bool) (x y : Outcome) → Kept ws x → Kept ws y → Kept ws (pick b x y)
kept_pick ws true x y k l = k
kept_pick ws false x y k l = l

kept_behind : (ws : List ℕ) (id : ℕ) (s : OutgoingStream) (next : ℕ) → Kept ws (scheduled_behind ws id s next)
unfolding scheduled_behind
kept_behind ws id s next = kept_pick ws (is_pending s.pause_state) _ _ (kept_remove ws id) (kept_set ws id _ _)

-- a drop that the scheduler refuses leaves the words
pub behind_refused : (ws : List ℕ) (id : ℕ) (s : OutgoingStream) (next : ℕ) (b : Bool) (us : List ℕ) → outcome b us ≡ scheduled_behind ws id s next → b ≡ false → us ≡ ws
behind_refused ws id s next b us e f = ap (λ (o : Outcome). o.next) e ∙ (kept_behind ws id s next).if_refused (ap (λ (o : Outcome). o.done) (sym e) ∙ f)
