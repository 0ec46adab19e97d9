-- "Ready ids [..] come [..] in ascending order": those of a table of streams. Assumes nothing.
use mathlib.Core.Bool.{Bool, true, false}
use mathlib.Core.List.{List, [], ◌∷◌}
use Prim.Native.Nat.{ℕ}
use Rattle.std.specs.Prelude.{if◌then◌else◌}
use Rattle.queue_model.specs.Types.{Stream}
use Rattle.queue_model.specs.Streams.{stream_key}
use Rattle.queue_model.specs.Reset.{is_paused, paused_ids}
use Rattle.queue_model.specs.Ascending.{Above, Ascending}
use Rattle.queue_model.proofs.Table.{After, Rising}

paused_above : (k : ℕ) (ss : List Stream) → After stream_key k ss → Above k (paused_ids ss)
unfolding paused_ids
paused_above k [] a = tt
paused_above k (s ∷ ss) a = go (is_paused s) (paused_above k ss a.1)
  where
    go : (b : Bool) → Above k (paused_ids ss) → Above k (if b then s.id ∷ paused_ids ss else paused_ids ss)
    go true h = (a.0, h)
    go false h = h

pub paused_ascending : (ss : List Stream) → Rising stream_key ss → Ascending (paused_ids ss)
unfolding paused_ids
paused_ascending [] r = tt
paused_ascending (s ∷ ss) r = go (is_paused s) (paused_ascending ss r.1)
  where
    go : (b : Bool) → Ascending (paused_ids ss) → Ascending (if b then s.id ∷ paused_ids ss else paused_ids ss)
    go true h = (paused_above s.id ss r.0, h)
    go false h = h
