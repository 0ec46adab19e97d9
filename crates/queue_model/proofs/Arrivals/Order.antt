-- The ledger's messages stand in order of arrival: they are a part of all that arrived. Assumes nothing.
use mathlib.Core.Path.{◌≡◌, refl, ap, ◌∙◌, subst}
use mathlib.Core.Bool.{Bool, true, false}
use mathlib.Core.List.{List, [], ◌∷◌, ◌++◌}
use mathlib.Core.Option.{Option, none, some}
use Prim.Native.Nat.{ℕ}
use lib.Dec.{eqb}
use Rattle.types.specs.Wrap.{wrap_suc}
use Rattle.std.specs.Prelude.{if◌then◌else◌}
use Rattle.queue_model.specs.Types.{Item, PauseState, not_paused, pending, paused, resetting, Counters, Message}
use Rattle.queue_model.specs.Streams.{zero_counters}
use Rattle.queue_model.specs.Add.{new_item}
use Rattle.queue_model.specs.Produce.{numbered, moved_on, end_pending}
use Rattle.queue_model.specs.Close.{untouched, kept, closed_state}
use Rattle.queue_model.specs.Reset.{model_whole_item, whole_head}
use Rattle.queue_model.specs.Image.{Handover}
use Rattle.queue_model.specs.Reader.{read_image}
use Rattle.queue_model.specs.Run.{Call, add, produce, fill, discard, close, ready_ids, commit, rollback, reset, set_threshold, set_priority, set_interleaving, restore, ask_priority, ask_amount, ask_threshold, ask_total, ask_empty, ask_has_data, ask_streams_ready, ask_ready_count, ask_readiness, ask_room}
use Rattle.queue_model.specs.History.{Piece, Entry}
use Rattle.queue_model.specs.Arrivals.{Ledger, ledger_with, new_ledger, on_stream, append_arrival, count_arrival, drop_first, has_expired, expire_head, expire_heads, sent_on, send_first, send_piece, send_pieces, has_message_id, discard_head, close_in, close_stream, readied, ready_stream, reopen_in, reopen_stream, reset_ledger, records_of, image_laid, entered, enter, ledger, Arrivals, no_arrivals, image_arrives, arrives, arrivals, Same, InOrder, none_left, ended, waits, Request4Order}
use Rattle.queue_model.proofs.Arrivals.Heads.{numbered_same}

-- ---- lists in order

-- The first message leaves.
order_tail : (x : Item) (xs ys : List Item) → InOrder (x ∷ xs) ys → InOrder xs ys
order_tail x xs ys (ended ws y zs o) = ended xs y zs (order_tail x xs zs o)
order_tail x xs ys (waits w ws y zs e o) = ended xs y zs o

-- The first message gets its numbers, is further on, or is put back.
order_head : (x z : Item) (xs ys : List Item) → ((y : Item) → Same x y → Same z y) → InOrder (x ∷ xs) ys → InOrder (z ∷ xs) ys
order_head x z xs ys f (ended ws y zs o) = ended (z ∷ xs) y zs (order_head x z xs zs f o)
order_head x z xs ys f (waits w ws y zs e o) = waits z xs y zs (f y e) o

-- A message comes last in both.
order_last : (w : Item) (xs ys : List Item) → InOrder xs ys → InOrder (xs ++ (w ∷ [])) (ys ++ (w ∷ []))
order_last w xs ys (none_left zs) = last_of zs
  where
    last_of : (zs : List Item) → InOrder (w ∷ []) (zs ++ (w ∷ []))
    last_of [] = waits w [] w [] refl (none_left [])
    last_of (z ∷ zs) = ended (w ∷ []) z (zs ++ (w ∷ [])) (last_of zs)
order_last w xs ys (ended ws y zs o) = ended (xs ++ (w ∷ [])) y (zs ++ (w ∷ [])) (order_last w xs zs o)
order_last w xs ys (waits x ws y zs e o) = waits x (ws ++ (w ∷ [])) y (zs ++ (w ∷ [])) e (order_last w ws zs o)

order_same : (xs : List Item) → InOrder xs xs
order_same [] = none_left []
order_same (x ∷ xs) = waits x xs x xs refl (order_same xs)

order_behind : (xs ys : List Item) → InOrder xs (ys ++ xs)
order_behind xs [] = order_same xs
order_behind xs (y ∷ ys) = ended xs y (ys ++ xs) (order_behind xs ys)

-- Closing drops messages.
order_kept : (xs ys : List Item) → InOrder xs ys → InOrder (kept xs) ys
unfolding kept
order_kept xs ys (none_left zs) = none_left zs
order_kept xs ys (ended ws y zs o) = ended (kept xs) y zs (order_kept xs zs o)
order_kept xs ys (waits x ws y zs e o) = go (untouched x) (order_kept ws zs o)
  where
    go : (b : Bool) → InOrder (kept ws) zs → InOrder (if b then kept ws else x ∷ kept ws) (y ∷ zs)
    go true h = ended (kept ws) y zs h
    go false h = waits x (kept ws) y zs e h

-- ---- a ledger in order

record Ordered (l : Ledger) (b : Arrivals) : Type 0 where
  same_id : l.next_id ≡ b.next_id
  in_order : InOrder l.messages b.messages

-- Another state, other counters, and messages that are still in order.
ordered_with : (l : Ledger) (b : Arrivals) (p : PauseState) (c : Counters) (is : List Item) → Ordered l b → InOrder is b.messages → Ordered (ledger_with l p c is) b
ordered_with l b p c is o h = record { same_id = o.same_id; in_order = h }

-- A change to one stream.
ordered_on : (s k : ℕ) (f : Ledger → Ledger) (l : Ledger) (b : Arrivals) → Ordered l b → Ordered (f l) b → Ordered (on_stream s k f l) b
unfolding on_stream
ordered_on s k f l b o h = go (eqb s k)
  where
    go : (x : Bool) → Ordered (if x then f l else l) b
    go true = h
    go false = o

-- A head that expires or is discarded.
ordered_drop : (meant : Item → Bool) (l : Ledger) (b : Arrivals) → Ordered l b → Ordered (drop_first meant l l.messages) b
unfolding drop_first
ordered_drop meant l b o = go l.messages o.in_order
  where
    leaves : (i : Item) (is : List Item) → InOrder (i ∷ is) b.messages → (x : Bool) → Ordered (if x then ledger_with l (end_pending l.state) l.counters is else l) b
    leaves i is h true = ordered_with l b (end_pending l.state) l.counters is o (order_tail i is b.messages h)
    leaves i is h false = o

    go : (is : List Item) → InOrder is b.messages → Ordered (drop_first meant l is) b
    go [] h = o
    go (i ∷ is) h = leaves i is h (meant i)

ordered_expired : (k now : ℕ) (ss : List ℕ) (l : Ledger) (b : Arrivals) → Ordered l b → Ordered (expire_heads k now ss l) b
unfolding expire_heads expire_head
ordered_expired k now [] l b o = o
ordered_expired k now (s ∷ ss) l b o = ordered_expired k now ss (on_stream s k (expire_head now) l) b (ordered_on s k (expire_head now) l b o (ordered_drop (has_expired now) l b o))

-- A head of which a fragment is handed out.
moved_same : (c : Counters) (i : Item) (n : ℕ) (y : Item) → Same i y → Same (moved_on (numbered c i).item n) y
unfolding moved_on
moved_same c i n y e = numbered_same c i y.mid y.ssn y.fsn y.offset ∙ e

ordered_piece : (p : Piece) (l : Ledger) (b : Arrivals) → Ordered l b → Ordered (send_piece p l) b
unfolding send_piece send_first sent_on
ordered_piece p l b o = go l.messages o.in_order
  where
    left : (i : Item) (is : List Item) → InOrder (i ∷ is) b.messages → (x : Bool) → InOrder (if x then is else moved_on (numbered l.counters i).item p.size ∷ is) b.messages
    left i is h true = order_tail i is b.messages h
    left i is h false = order_head i (moved_on (numbered l.counters i).item p.size) is b.messages (moved_same l.counters i p.size) h

    sends : (i : Item) (is : List Item) → InOrder (i ∷ is) b.messages → (x : Bool) → Ordered (if x then sent_on p l (numbered l.counters i) is else l) b
    sends i is h true = ordered_with l b _ _ _ o (left i is h p.last)
    sends i is h false = o

    go : (is : List Item) → InOrder is b.messages → Ordered (send_first p l is) b
    go [] h = o
    go (i ∷ is) h = sends i is h (eqb i.message_id p.message_id)

ordered_pieces : (k : ℕ) (ps : List Piece) (l : Ledger) (b : Arrivals) → Ordered l b → Ordered (send_pieces k ps l) b
unfolding send_pieces
ordered_pieces k [] l b o = o
ordered_pieces k (p ∷ ps) l b o = ordered_pieces k ps (on_stream p.stream_id k (send_piece p) l) b (ordered_on p.stream_id k (send_piece p) l b o (ordered_piece p l b o))

ordered_discard : (m : ℕ) (l : Ledger) (b : Arrivals) → Ordered l b → Ordered (discard_head m l) b
unfolding discard_head
ordered_discard m l b o = ordered_drop (has_message_id m) l b o

ordered_close : (l : Ledger) (b : Arrivals) → Ordered l b → Ordered (close_stream l) b
unfolding close_stream close_in
ordered_close l b o = go l.state
  where
    go : (p : PauseState) → Ordered (close_in p l) b
    go not_paused = ordered_with l b (closed_state (kept l.messages)) l.counters (kept l.messages) o (order_kept l.messages b.messages o.in_order)
    go pending = o
    go paused = o
    go resetting = o

ordered_reopen : (z : Bool) (l : Ledger) (b : Arrivals) → Ordered l b → Ordered (reopen_stream z l) b
unfolding reopen_stream reopen_in
ordered_reopen z l b o = go l.state
  where
    go : (p : PauseState) → Ordered (reopen_in p z l) b
    go not_paused = o
    go pending = o
    go paused = o
    go resetting = ordered_with l b not_paused (if z then zero_counters else l.counters) l.messages o o.in_order

order_whole : (strict : Bool) (is ys : List Item) → InOrder is ys → InOrder (whole_head strict is) ys
unfolding whole_head
order_whole strict [] ys o = o
order_whole strict (i ∷ is) ys o = order_head i (model_whole_item strict i) is ys (λ y e. e) o

-- A message that arrives.
ordered_add : (k store now : ℕ) (m : Message) (l : Ledger) (b : Arrivals) → Ordered l b → Ordered (count_arrival (on_stream m.stream_id k (append_arrival now m) l)) (arrives k (add store now m) b)
unfolding arrives on_stream append_arrival
ordered_add k store now m l b o = record { same_id = go_id (eqb m.stream_id k); in_order = go (eqb m.stream_id k) }
  where
    arrived : List Item
    arrived = l.messages ++ (new_item now l.next_id m ∷ [])

    go_id : (x : Bool) → wrap_suc 32 (if x then ledger_with l l.state l.counters arrived else l).next_id ≡ wrap_suc 32 b.next_id
    go_id true = ap (wrap_suc 32) o.same_id
    go_id false = ap (wrap_suc 32) o.same_id

    go : (x : Bool) → InOrder (if x then ledger_with l l.state l.counters arrived else l).messages (if x then b.messages ++ (new_item now b.next_id m ∷ []) else b.messages)
    go true = subst (λ (n : ℕ). InOrder arrived (b.messages ++ (new_item now n m ∷ []))) o.same_id (order_last (new_item now l.next_id m) l.messages b.messages o.in_order)
    go false = o.in_order

-- The messages of an image.
ordered_image : (k now : ℕ) (x : Option Handover) (l : Ledger) (b : Arrivals) → Ordered l b → Ordered (image_laid k now x l) (image_arrives k now x b)
unfolding image_laid image_arrives
ordered_image k now none l b o = o
ordered_image k now (some h) l b o = record { same_id = refl; in_order = order_behind (records_of k now h.messages) b.messages }

-- ---- every call, and a history

ordered_entered : (strict : Bool) (k : ℕ) (c : Call) (ps : List Piece) (ss : List ℕ) (l : Ledger) (b : Arrivals) → Ordered l b → Ordered (entered strict k c ps ss l) (arrives k c b)
unfolding entered arrives
ordered_entered strict k (add store now m) ps ss l b o = ordered_add k store now m l b o
ordered_entered strict k (produce store places buffer now size) ps ss l b o = ordered_pieces k ps (expire_heads k now ss l) b (ordered_expired k now ss l b o)
ordered_entered strict k (fill store places buffer now p) ps ss l b o = o
ordered_entered strict k (discard places s m) ps ss l b o = ordered_on s k (discard_head m) l b o (ordered_discard m l b o)
ordered_entered strict k (close places s) ps ss l b o = ordered_on s k close_stream l b o (ordered_close l b o)
ordered_entered strict k ready_ids ps ss l b o = unfold ready_stream in ordered_with l b (readied l.state) l.counters l.messages o o.in_order
ordered_entered strict k commit ps ss l b o = ordered_reopen true l b o
ordered_entered strict k rollback ps ss l b o = ordered_reopen false l b o
ordered_entered strict k reset ps ss l b o = unfold reset_ledger in ordered_with l b not_paused zero_counters (whole_head strict l.messages) o (order_whole strict l.messages b.messages o.in_order)
ordered_entered strict k (set_threshold places s t) ps ss l b o = o
ordered_entered strict k (set_priority s p) ps ss l b o = o
ordered_entered strict k (set_interleaving x) ps ss l b o = o
ordered_entered strict k (restore store now image) ps ss l b o = ordered_image k now (read_image image) l b o
ordered_entered strict k (ask_priority s) ps ss l b o = o
ordered_entered strict k (ask_amount s) ps ss l b o = o
ordered_entered strict k (ask_threshold s) ps ss l b o = o
ordered_entered strict k ask_total ps ss l b o = o
ordered_entered strict k ask_empty ps ss l b o = o
ordered_entered strict k ask_has_data ps ss l b o = o
ordered_entered strict k ask_streams_ready ps ss l b o = o
ordered_entered strict k ask_ready_count ps ss l b o = o
ordered_entered strict k ask_readiness ps ss l b o = o
ordered_entered strict k (ask_room r) ps ss l b o = o

ordered_history : (strict : Bool) (k : ℕ) (es : List Entry) (l : Ledger) (b : Arrivals) → Ordered l b → Ordered (ledger strict k es l) (arrivals k es b)
unfolding ledger arrivals enter
ordered_history strict k [] l b o = o
ordered_history strict k (e ∷ es) l b o = ordered_history strict k es _ _ (go e.refused)
  where
    go : (x : Bool) → Ordered (if x then l else entered strict k e.call e.pieces e.passed_over l) (if x then b else arrives k e.call b)
    go true = o
    go false = ordered_entered strict k e.call e.pieces e.passed_over l b o

pub request4_order : Request4Order
unfolding Request4Order
request4_order strict k es = (ordered_history strict k es new_ledger no_arrivals (record { same_id = refl; in_order = none_left [] })).in_order
