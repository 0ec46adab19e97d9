-- `owned_closing::closing::close_open` meets its contract: each return is a case of `close_open_words` (proofs/Closes.antt). Assumes nothing.
use Rattle.message_chains.proofs.Own.{remove_few}
use Rattle.owned_closing.proofs.Closes.{head_fits, goes_behind, goes_whole, closed_empty, closed_behind, closed_whole}
use Rattle.owned_closing.proofs.closing.close_open.Goals as goal

pub returns-then-s-eq-NO_MESSAGE : goal.returns-then-s-eq-NO_MESSAGE
returns-then-s-eq-NO_MESSAGE c = closed_empty _ _ _ _ _ _ _ c.if-s-eq-NO_MESSAGE.true c.with_pause-o.ensures c.store_stream.ensures

pub sweep_behind-requires : goal.sweep_behind-requires
sweep_behind-requires c =
    let y = c.requires in
    let ne = c.if-s-eq-NO_MESSAGE.false in
    (y.row_fits, head_fits _ _ _ _ y ne, goes_behind _ _ _ _ y ne _ c.load_item-m.ensures c.if-m-gt0.true)

pub returns-then-m-gt0 : goal.returns-then-m-gt0
returns-then-m-gt0 c = closed_behind _ _ _ _ _ c.requires c.if-s-eq-NO_MESSAGE.false _ c.load_item-m.ensures _ c.if-m-gt0.true c.sweep_behind.ensures

pub remove_own-requires : goal.remove_own-requires
remove_own-requires c = remove_few _ _ c.requires.ended

pub sweep_whole-requires : goal.sweep_whole-requires
sweep_whole-requires c =
    let y = c.requires in
    (y.row_fits, goes_whole _ _ _ _ y c.if-s-eq-NO_MESSAGE.false _ c.load_item-m.ensures _ c.if-m-gt0.false c.remove_own.ensures)

pub returns : goal.returns
returns c = closed_whole _ _ _ _ _ c.requires c.if-s-eq-NO_MESSAGE.false _ c.load_item-m.ensures _ _ c.if-m-gt0.false c.remove_own.ensures c.sweep_whole.ensures
