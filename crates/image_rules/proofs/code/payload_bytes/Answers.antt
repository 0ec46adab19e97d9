-- `image_rules::code::payload_bytes` meets its contract: the sum so far and the bytes of the records from the i-th on are all. Assumes nothing.
use Prim.Native.Nat.{◌<◌}
use native.Mathlib.Omega.{arith}
use Rattle.image_rules.proofs.Loops.{lies_start, lies_whole, lies_on, bytes_start, bytes_next, bytes_end}
use Rattle.std.proofs.Common.{rules}
use Rattle.image_rules.proofs.code.payload_bytes.Goals as goal

pub loop-i-init : goal.loop-i-init
loop-i-init c = (omega arith, bytes_start _ _ _, lies_start _ _ _ _ _ (c.requires.0) (c.requires.2))

pub read_message-m-requires : goal.read_message-m-requires
read_message-m-requires c = lies_whole _ _ _ _ _ c.loop-i.invariant.2 c.loop-i-test.true

pub loop-i-preserved : goal.loop-i-preserved
loop-i-preserved c = (
  (let l : c.read_message-m.result.length < 4294967296 = search rules in omega (arith, l, c.loop-i.invariant.0)),
  bytes_next _ _ _ _ _ _ c.loop-i.invariant.1 c.loop-i-test.true _ c.read_message-m.ensures,
  lies_on _ _ _ _ _ c.loop-i.invariant.2 c.loop-i-test.true _ c.read_message-m.ensures,
)

pub returns : goal.returns
returns c = bytes_end _ _ _ _ _ _ c.loop-i.invariant.1 c.loop-i-test.false
