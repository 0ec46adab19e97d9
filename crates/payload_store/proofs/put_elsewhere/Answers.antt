-- `payload_store::put_elsewhere` meets its contract: each way out is a case of `put_elsewhere`. Assumes nothing.
use native.Mathlib.Omega.{arith}
use Rattle.payload_store.proofs.Tests.{room_found, room_after, out_found, out_moved}
use Rattle.payload_store.proofs.Found.{found_gap}
use Rattle.payload_store.proofs.put_elsewhere.Goals as goal

pub overflow_sub-f : goal.overflow_sub-f
overflow_sub-f c = omega (arith, (found_gap _ _ _ _ c.find_gaps-f.ensures).0)

pub place_payload-requires : goal.place_payload-requires
place_payload-requires c = room_found _ _ _ _ _ _ c.find_gaps-f.ensures c.requires.0 c.if-n-f.true c.requires.1

pub returns-then-n-f : goal.returns-then-n-f
returns-then-n-f c = out_found _ _ _ _ _ _ c.load_totals-u.ensures c.find_gaps-f.ensures _ c.if-n-f.true c.place_payload.ensures

pub place_payload-requires-2 : goal.place_payload-requires-2
place_payload-requires-2 c = room_after _ _ _ _ _ _ _ _ c.move_together.ensures c.load_totals-t.ensures c.requires.0 c.requires.1

pub returns : goal.returns
returns c = out_moved _ _ _ _ _ _ c.load_totals-u.ensures c.find_gaps-f.ensures _ _ _ _ _ c.if-n-f.false c.move_together.ensures c.load_totals-t.ensures c.place_payload-2.ensures
