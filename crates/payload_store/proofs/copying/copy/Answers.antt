-- One block more, and the rest.
use Rattle.std.proofs.Common.{◌≡◌, ◌+◌, ◌*◌, ◌/◌, ◌≤◌, length, arith}
use Rattle.payload_store.proofs.Blocks.{block_on, block_last}
use Rattle.payload_store.proofs.copying.copy.Goals as goal

pub loop-block-preserved : goal.loop-block-preserved
loop-block-preserved c =
    let t : (c.loop-block.block + 1) * 262144 ≡ c.loop-block.block * 262144 + 262144 = omega arith in
    let r : c.loop-block.block * 262144 + 262144 ≤ length c.args.src.now = omega arith in
    rw t (block_on _ _ _ _ _ _ r c.loop-block.invariant c.copy_some.ensures)

pub returns : goal.returns
returns c =
    let t : c.loop-block.block ≡ length c.args.src.now / 262144 = omega arith in
    let r : length c.args.src.now / 262144 * 262144 ≤ length c.args.src.now = omega arith in
    block_last _ _ _ _ _ r (rw t at c.loop-block.invariant) c.copy_some-2.ensures
