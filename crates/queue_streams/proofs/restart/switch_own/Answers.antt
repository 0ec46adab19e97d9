-- `queue_streams::restart::switch_own` meets its contract: each return is a case of `set_interleaving_words`; the rows suffice, and every step is done. Assumes nothing.
use mathlib.Core.Path.{refl}
use Rattle.queue_streams.proofs.Restarts.{room_fits, choice_kept, switch_done}
use Rattle.queue_streams.proofs.Settled.{switch_steps}
use Rattle.std.proofs.Common.{refl}
use Rattle.queue_streams.proofs.restart.switch_own.Goals as goal

-- `queue_streams::restart::switch_own` meets its contract: each return is a case of `set_interleaving_words`; the rows suffice, and every step is done. Assumes nothing.
pub returns-then-same : goal.returns-then-same
returns-then-same c = choice_kept _ _ _ c.load_totals-t.ensures _ c.same_choice-same.ensures c.if-same.true

pub switch_all-requires : goal.switch_all-requires
switch_all-requires c = (
  room_fits _ _ _ _ refl c.requires c.load_totals-t.ensures,
  switch_steps _ _ _ _ c.whole.ensures c.requires c.load_totals-t.ensures c.store_totals.ensures,
)

pub returns : goal.returns
returns c =
    switch_done _ _ _ c.load_totals-t.ensures _
    c.same_choice-same.ensures c.if-same.false _ refl _ _
    c.requires c.store_totals.ensures c.switch_all.ensures
