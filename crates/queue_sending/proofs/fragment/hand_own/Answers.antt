-- `queue_sending::fragment::hand_own` meets its contract: what is loaded and sent is what the test has judged (proofs/Nexts.antt). Assumes nothing.
use mathlib.Core.Path.{sym, ◌∙◌}
use native.Mathlib.Omega.{arith}
use Rattle.queue_sending.proofs.Nexts.{hand_places, hand_sent}
use Rattle.queue_sending.proofs.fragment.hand_own.Goals as goal

pub load_stream-s-requires : goal.load_stream-s-requires
load_stream-s-requires c = (hand_places _ _ _ _ _ _ _ 0 (sym c.requires.0) (omega arith)).1

pub load_item-m-requires : goal.load_item-m-requires
load_item-m-requires c = rw c.load_stream-s.ensures (hand_places _ _ _ _ _ _ _ 0 (sym c.requires.0) (omega arith)).2

pub send-requires : goal.send-requires
send-requires c =
    let q = c.requires in
    let p = hand_places _ _ _ _ _ _ _ 0 (sym q.0) (omega arith) in
    let es = c.load_stream-s.ensures in
    let em = c.load_item-m.ensures in
    (p.1, rw es p.2, rw (c.least-n.ensures, c.load_active-a.ensures, em, es) p.3, q.1)

pub returns : goal.returns
returns c = c.send.ensures ∙ hand_sent _ _ _ _ _ _ _ _ _ 0 (sym c.requires.0) (omega arith) _ _ _ _ c.load_stream-s.ensures c.load_item-m.ensures c.load_active-a.ensures c.least-n.ensures
