-- `receiver_store::packing::move_rows` meets its contract: what is left to move from here is what was to move. Assumes nothing.
use mathlib.Core.Path.{◌≡◌}
use Prim.Native.Nat.{◌-◌}
use lib.ListN.{length}
use Rattle.payload_store.specs.Moving.{pack}
use Rattle.receiver_store.specs.Packing.{pack_from}
use Rattle.receiver_store.proofs.packing.move_rows.Given as goal

abbrev pub invariant-loop : goal.invariant-loop
invariant-loop l =
    (length l.store ≡ length l.initial.store) × (pack_from (4096 - l.counter) (pack l.receiver l.store l.cursor) l.p ≡ pack_from 4096 (pack l.initial.receiver l.initial.store l.to) l.first)
