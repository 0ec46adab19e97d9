-- The bytes of the first blocks are copied.
use Rattle.std.proofs.Common.{◌≡◌, ◌*◌, ◌++◌, take, drop}
use Rattle.payload_store.proofs.copying.copy.Given as goal

abbrev pub invariant-loop-block : goal.invariant-loop-block
invariant-loop-block l = l.dst ≡ take (l.block * 262144) l.src ++ drop (l.block * 262144) l.initial.dst
