use Prim.Native.Nat.{◌<◌}
use Rattle.queue_messages.proofs.Append.{own_place, own_put, own_room, own_append}
use Rattle.std.proofs.Common.{rules}
use Rattle.queue_messages.proofs.adding.append.Goals as goal

-- `queue_messages::adding::append` meets its contract: what it writes is what the definition says, by what the calls ensure and what the tests say
-- (proofs/Append). Assumes nothing.
pub load_next-free-requires : goal.load_next-free-requires
load_next-free-requires c =
    let a = c.args in
    own_place _ a.store.now _ _ _ a.payload.now c.requires.1 _ c.load_totals-t.ensures

pub store_item-requires : goal.store_item-requires
store_item-requires c =
    let a = c.args in
    let y = c.requires.1 in
    own_place _ a.store.now _ _ _ a.payload.now y _ c.load_totals-t.ensures

pub put_own-requires : goal.put_own-requires
put_own-requires c =
    let a = c.args in
    let y = c.requires.1 in
    let i = c.new_item-item.result in
    let hr : i.max_retransmissions < 65536 = search rules in
    let hi : i.message_id.0 < 4294967296 = search rules in
    let hp : i.ppid < 4294967296 = search rules in
    let t = c.load_totals-t.ensures in
    let l = c.whole.ensures in
    own_put _ a.store.now _ _ _ a.payload.now y _ t l _ _ c.new_item-item.ensures c.store_item.ensures hr hi hp

pub hang-requires : goal.hang-requires
hang-requires c =
    let a = c.args in
    let p = c.requires in
    let t = c.load_totals-t.ensures in
    let l = c.whole.ensures in
    let i = c.new_item-item.ensures in
    let u = c.store_item.ensures in
    (p.0, p.1.has_last, own_room _ a.store.now _ _ _ a.payload.now p.1 _ t l _ _ i u _ _ c.put_own.ensures)

pub returns : goal.returns
returns c =
    let a = c.args in
    let y = c.requires.1 in
    let t = c.load_totals-t.ensures in
    let f = c.load_next-free.ensures in
    let i = c.new_item-item.ensures in
    let u = c.store_item.ensures in
    own_append a.queue.now _ _ _ _ a.payload.now y _ t _ _ _ _ _ _ _ f i u c.put_own.ensures c.hang.ensures
