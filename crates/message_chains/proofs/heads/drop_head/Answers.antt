use mathlib.Core.Path.{refl}
use Rattle.message_chains.specs.Heads.{head_dropped, drop_notes}
use Rattle.std.proofs.Common.{refl}
use Rattle.message_chains.proofs.heads.drop_head.Goals as goal

pub returns : goal.returns
unfolding head_dropped drop_notes
returns c =
    rw (
      ← c.remaining-n.ensures,
      ← c.sent_events-k1.ensures,
      ← c.lifecycle_events-k2.ensures,
      ← c.release.ensures,
      ← c.without_head-o.ensures,
      ← c.store_stream.ensures,
    ) (refl, refl)
