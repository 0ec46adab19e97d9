-- `payload_store::read_own` meets its contract: each way out is a case of `read_part`, by its test. Assumes nothing.
use native.Mathlib.Omega.{arith}
use mathlib.Core.Path.{sym}
use Rattle.payload_store.proofs.Reading.{read_ok, read_done}
use Rattle.payload_store.proofs.read_own.Goals as goal

pub load_place-place-requires : goal.load_place-place-requires
load_place-place-requires c = (read_ok _ _ _ _ _ _ c.requires).row

pub overflow_add-at : goal.overflow_add-at
overflow_add-at c = let o = read_ok _ _ _ _ _ _ c.requires in
    omega (arith, o.inside, o.part, c.load_place-place.ensures)

pub read_part-requires : goal.read_part-requires
read_part-requires c = let o = read_ok _ _ _ _ _ _ c.requires in
    (omega (arith, o.inside, o.part, c.load_place-place.ensures), o.fits)

pub returns : goal.returns
returns c = (read_done _ _ _ _ _ _ _ 0 _ (sym c.requires) (omega arith) c.load_place-place.ensures c.read_part.ensures).1
