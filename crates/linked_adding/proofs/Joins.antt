-- A message added to a known stream, on words that hold together: `appended` is the model's step. Assumes nothing.
use mathlib.Core.Path.{◌≡◌, refl, sym, ap, ◌∙◌, subst}
use mathlib.Core.Bool.{Bool, true, not, ◌&&◌}
use mathlib.Core.List.{List, [], ◌∷◌, ◌++◌}
use mathlib.Core.Option.{none, get_or}
use Prim.Native.Nat.{ℕ, ◌+◌, ◌^◌, ◌≤◌, ◌<◌}
use native.Mathlib.Omega.{arith}
use borrow.Author.Tests.{le-ltb}
use lib.ListN.{length}
use Rattle.types.specs.Wrap.{wrapping_add, wrap_suc}
use Rattle.types.proofs.Width.{wrap_one, wrap_fits}
use Rattle.types.specs.declared.OutgoingMessageId.{OutgoingMessageId}
use Rattle.queue_words.specs.Header.{options_at, totals_at, put_totals}
use Rattle.queue_words.specs.Items.{put_item, FitsItem}
use Rattle.queue_words.specs.Known.{id_at}
use Rattle.queue_words.specs.Streams.{stream_at_words}
use Rattle.queue_words.specs.declared.header.Totals.{Totals}
use Rattle.queue_words.specs.declared.items.Item.{Item}
use Rattle.queue_words.specs.declared.streams.OutgoingStream.{OutgoingStream}
use Rattle.queue_words.proofs.Laws
use Rattle.std.specs.Prelude.{if◌then◌else◌}
use Rattle.queue_model.specs.Types.{Stream, Scheduler}
use Rattle.queue_model.specs.Types as plain
use Rattle.queue_model.specs.Scheduler.{find_active}
use Rattle.queue_model.specs.Streams.{put_stream, has_items, reschedule, with_message}
use Rattle.queue_model.specs.Add.{starts_waiting, new_item}
use Rattle.queue_model.specs.Add as plain_add
use Rattle.payload_store.specs.Words.{used_of}
use Rattle.payload_store.specs.Putting.{put_payload}
use Rattle.stream_scheduler.specs.Link.{model_scheduler}
use Rattle.message_chains.specs.Amounts.{sum}
use Rattle.queue_state.specs.Chains.{Linked, each}
use Rattle.queue_state.specs.Model.{expires_of, next_of, item_of, item_in_words, stream_of, row_at, stream_in, streams_in}
use Rattle.queue_state.specs.Good.{Row, Shape}
use Rattle.queue_state.proofs.Chains.{last_lt, count_head, linked_none, linked_le}
use Rattle.queue_state.proofs.Frames.{row_below, stream_is}
use Rattle.queue_state.proofs.Rooms.{AllKnown}
use Rattle.queue_messages.specs.Message.{new_item_words, expiry, retransmissions}
use Rattle.queue_messages.specs.Add.{with_last, linked_last, with_message_words, counted, starts, started, appended_at, appended}
use Rattle.std.specs.Prelude.{Some, None}
use Rattle.queue_messages.specs.Message.{Lifetime, MaxRetransmissions}
use Rattle.queue_messages.specs.declared.message.Message.{Message}
use Rattle.linked_adding.specs.Message.{message_of_words, lifetime_of, retransmissions_of}
use Rattle.linked_adding.proofs.Placed.{Placed, placed}
use Rattle.linked_adding.proofs.Hung.{FitsAfter, Hung, hung_first, hung_last}
use Rattle.linked_adding.proofs.Appends.{sum_is, First, Counted, after, streams_new, scheduler_new}
use Rattle.linked_adding.proofs.Passes.{free_place}
use Rattle.linked_adding.proofs.Begins.{Begun, begun, put_known, starts_is, starts_none, size_one}

-- ---- the message as it waits

expires_is : (time : ℕ) (l : Lifetime) → expires_of (expiry time l) ≡ plain_add.expiry time (lifetime_of l)
unfolding expiry plain_add.expiry
expires_is time None = refl
expires_is time (Some n) = refl

limit_is : (r : MaxRetransmissions) → retransmissions r ≡ get_or (retransmissions_of r) 65535
limit_is None = refl
limit_is (Some n) = refl

pub item_new : (time : ℕ) (id : OutgoingMessageId) (m : Message) (bs : List ℕ) → item_of (new_item_words time id m) bs ≡ new_item time id.0 (message_of_words m bs)
unfolding new_item_words new_item
item_new time id m bs = rw (expires_is time m.lifetime, limit_is m.max_retransmissions)

-- ---- the step

-- What is true after it: ws is known to have the stream in position i.
pub record Joined (ws st : List ℕ) (i time : ℕ) (m : Message) (bs us ut : List ℕ) : Type 0 where
  pub shape : Shape us ut
  pub store : length ut ≡ length st
  pub options : options_at us ≡ options_at ws
  pub interleaving : (totals_at us).interleaving ≡ (totals_at ws).interleaving
  pub total : (totals_at us).total ≡ (totals_at ws).total + length bs
  pub next_id : (totals_at us).next_message_id.0 ≡ wrap_suc 32 (totals_at ws).next_message_id.0
  pub streams : streams_in us ut ≡ put_stream (with_message (stream_in ws st i) (new_item time (totals_at ws).next_message_id.0 (message_of_words m bs))) (streams_in ws st)
  pub scheduler : model_scheduler us ≡ plain_add.started (totals_at ws).interleaving (stream_in ws st i) (with_message (stream_in ws st i) (new_item time (totals_at ws).next_message_id.0 (message_of_words m bs))) (model_scheduler ws)

fits_message : (free n : ℕ) → FitsAfter (λ t. with_message_words t free n)
fits_message free n t f = record {
  message_id_fits =
      let e : wrapping_add 32 t.next_message_id.0 1 ≡ wrap_suc 32 t.next_message_id.0 = wrap_one 32 t.next_message_id.0 in
      let b : wrap_suc 32 t.next_message_id.0 < 2 ^ 32 = wrap_fits 32 t.next_message_id.0 in
      rw e b;
}

-- the place hung where the chain ends
pub hangs : (F : Totals → Totals) → FitsAfter F → (ws vs : List ℕ) (row p n : ℕ) (ps : List ℕ) → length vs ≡ 20768 → row < 256 → stream_at_words vs row ≡ stream_at_words ws row → Row ws (stream_at_words ws row) ps
    → (first : ℕ) × (Hung vs (put_totals (linked_last vs row (stream_at_words ws row) p n) (F (totals_at (linked_last vs row (stream_at_words ws row) p n)))) row (stream_at_words ws row).last p (with_last (stream_at_words ws row) first p n) (F (totals_at vs))) × First ps first p (stream_at_words ws row).first
hangs F a ws vs row p n [] l h own r = (p, hung_first F a vs row p n (stream_at_words ws row) l h own r.linked r.last_is, refl)
hangs F a ws vs row p n (x ∷ xs) l h own r =
    let s : OutgoingStream = stream_at_words ws row in
    let k : Linked (next_of ws) s.first (x ∷ xs) = r.linked in
    let b : s.first < 1024 = omega (arith, k.0, k.1) in
    let c : s.last < 1024 = omega (arith, r.last_is, last_lt (next_of ws) s.first x xs k) in
    (s.first, hung_last F a vs row p n s l h own b c, refl)

-- the stream with one message more, by its row
pub longer : (id first p n : ℕ) (s : OutgoingStream) (is : List plain.Item) (j : plain.Item) → s.buffered_amount + n ≤ 18446744073709551615 → plain.remaining j ≡ n
    → stream_of id (with_last s first p n) (is ++ (j ∷ [])) ≡ with_message (stream_of id s is) j
longer id first p n s is j h e = rw (sum_is s.buffered_amount n h, e)

remaining_new : (time k : ℕ) (m : plain.Message) → plain.remaining (new_item time k m) ≡ length m.payload
unfolding new_item
remaining_new time k m = omega arith

model_starts : (il : Bool) (s s' : Stream) (sc : Scheduler) (b : Bool) → (starts_waiting s.pause_state && not (has_items s)) ≡ b → plain_add.started il s s' sc ≡ (if b then reschedule il s' sc else sc)
unfolding plain_add.started
model_starts il s s' sc b e = ap (λ (c : Bool). if c then reschedule il s' sc else sc) e

module _ (ws st : List ℕ) (g : Shape ws st) (known : AllKnown ws st) (i : ℕ) (hk : i < (totals_at ws).known) (time : ℕ) (m : Message) (bs : List ℕ)
    (id_is : id_at ws i ≡ m.stream_id.0) (fits : FitsItem (new_item_words time (totals_at ws).next_message_id m)) (some_bytes : 1 ≤ length bs) (room : used_of ws + length bs ≤ length st)
    (total_fits : (totals_at ws).total + length bs ≤ 18446744073709551615) (amount_fits : (stream_at_words ws (row_at ws i)).buffered_amount + length bs ≤ 18446744073709551615)
    (idle : starts (stream_at_words ws (row_at ws i)) ≡ true → find_active m.stream_id.0 (model_scheduler ws).active ≡ none)
    (p : ℕ) (fr : List ℕ) (efr : g.fr ≡ p ∷ fr) (hp : p < 1024) (behind : Linked (next_of ws) (next_of ws p) fr) where
  abbrev row : ℕ
  row = row_at ws i

  abbrev s : OutgoingStream
  s = stream_at_words ws (row_at ws i)

  abbrev new : Item
  new = new_item_words time (totals_at ws).next_message_id m

  abbrev vs : List ℕ
  vs = (put_payload (put_item ws p new) st p bs).words

  abbrev vt : List ℕ
  vt = (put_payload (put_item ws p new) st p bs).store

  abbrev us : List ℕ
  us = counted (linked_last vs row s p (length bs)) (next_of ws p) (length bs)

  abbrev old : Stream
  old = stream_in ws st i

  abbrev more : Stream
  more = with_message (stream_in ws st i) (new_item time (totals_at ws).next_message_id.0 (message_of_words m bs))

  put : Placed ws st p new bs vs vt
  unfolding new_item_words
  put = placed ws st p new g.long hp fits refl refl g.lay (g.bare p (rw efr (count_head p fr))) bs room

  hung : (first : ℕ) × (Hung vs us row s.last p (with_last s first p (length bs)) (with_message_words (totals_at vs) (next_of ws p) (length bs))) × First (g.q i) first p s.first
  unfolding counted
  hung = hangs (λ t. with_message_words t (next_of ws p) (length bs)) (fits_message (next_of ws p) (length bs)) ws vs row p (length bs) (g.q i) (put.long ∙ g.long) (row_below ws st g i hk) (put.streams row (row_below ws st g i hk)) (g.rows i hk)

  ends : new.next ≡ 1024
  unfolding new_item_words
  ends = refl

  counts : Counted (totals_at vs) (next_of ws p) (with_message_words (totals_at vs) (next_of ws p) (length bs))
  counts = record { known = refl; waiting = refl; free_is = refl; used = refl; gaps = refl }

  shape_us : Shape us vt
  shape_us = (after ws st g i hk p fr efr hp behind new bs ends some_bytes vs vt put us hung.0 (length bs) (with_message_words (totals_at vs) (next_of ws p) (length bs)) counts hung.1 hung.2).shape

  old_is : old ≡ stream_of (id_at ws i) s (each (item_in_words ws st) (g.q i))
  old_is = stream_is ws st g i hk

  streams_us : streams_in us vt ≡ put_stream more (streams_in ws st)
  streams_us =
      let j : plain.Item = new_item time (totals_at ws).next_message_id.0 (message_of_words m bs) in
      streams_new ws st g i hk p fr efr hp behind new bs ends some_bytes vs vt put us hung.0 (length bs) (with_message_words (totals_at vs) (next_of ws p) (length bs)) counts hung.1 hung.2
      ∙ ap (λ (x : Stream). put_stream x (streams_in ws st))
      (ap (λ k. stream_of (id_at ws i) (with_last s hung.0 p (length bs)) (each (item_in_words ws st) (g.q i) ++ (k ∷ []))) (item_new time (totals_at ws).next_message_id m bs)
      ∙ longer (id_at ws i) hung.0 p (length bs) s (each (item_in_words ws st) (g.q i)) j amount_fits (remaining_new time (totals_at ws).next_message_id.0 (message_of_words m bs))
      ∙ ap (λ (x : Stream). with_message x j) (sym old_is))

  scheduler_us : model_scheduler us ≡ model_scheduler ws
  scheduler_us = scheduler_new ws st g i hk p fr efr hp behind new bs ends some_bytes vs vt put us hung.0 (length bs) (with_message_words (totals_at vs) (next_of ws p) (length bs)) counts hung.1 hung.2

  totals_us : totals_at us ≡ with_message_words (totals_at vs) (next_of ws p) (length bs)
  totals_us = hung.1.totals

  interleaving_us : (totals_at us).interleaving ≡ (totals_at ws).interleaving
  interleaving_us = ap (λ (t : Totals). t.interleaving) totals_us ∙ ap (λ (t : Totals). t.interleaving) put.totals

  total_us : (totals_at us).total ≡ (totals_at ws).total + length bs
  total_us =
      ap (λ (t : Totals). t.total) totals_us ∙ ap (λ (t : Totals). sum t.total (length bs)) put.totals ∙ sum_is (totals_at ws).total (length bs) total_fits

  next_us : (totals_at us).next_message_id.0 ≡ wrap_suc 32 (totals_at ws).next_message_id.0
  next_us =
      ap (λ (t : Totals). t.next_message_id.0) totals_us
      ∙ ap (λ (t : Totals). wrapping_add 32 t.next_message_id.0 1) put.totals
      ∙ wrap_one 32 (totals_at ws).next_message_id.0

  -- a stream that begins to wait had none
  none_before : starts s ≡ true → old.items ≡ []
  none_before e =
      let k : s.first ≡ 1024 = omega (arith, starts_none s e, first_le) in
      ap (λ (x : Stream). x.items) old_is ∙ ap (each (item_in_words ws st)) (linked_none (next_of ws) s.first (g.q i) (g.rows i hk).linked k)
    where
      first_le : s.first ≤ 1024
      first_le = linked_le (next_of ws) s.first (g.q i) (g.rows i hk).linked

  starts_old : (starts_waiting old.pause_state && not (has_items old)) ≡ starts s
  starts_old = subst (λ (x : Stream). (starts_waiting x.pause_state && not (has_items x)) ≡ starts s) (sym old_is) (starts_is ws st (id_at ws i) s (g.q i) (g.rows i hk).linked)

  more_id : more.id ≡ m.stream_id.0
  more_id = ap (λ (x : Stream). x.id) old_is ∙ id_is

  more_priority : s.priority ≡ more.priority
  more_priority = sym (ap (λ (x : Stream). x.priority) old_is)

  begins : Begun us vt (started us more.id s (length bs)) (if starts s then reschedule (totals_at us).interleaving more (model_scheduler us) else model_scheduler us)
  begins =
      let k = put_known ws st us vt more streams_us scheduler_us known in
      begun us vt shape_us s more (length bs) k.0 k.1 more_priority (rw (← more_priority) (Laws.stream_at_fits ws (row_at ws i)).priority_fits)
      some_bytes
      (λ e. ap (λ (sc : Scheduler). find_active more.id sc.active) scheduler_us ∙ ap (λ k. find_active k (model_scheduler ws).active) more_id ∙ idle e)
      (λ e. size_one old.items (new_item time (totals_at ws).next_message_id.0 (message_of_words m bs)) (none_before e) ∙ remaining_new time (totals_at ws).next_message_id.0 (message_of_words m bs))

  pub joined_at : Joined ws st i time m bs (started us m.stream_id.0 s (length bs)) vt
  joined_at =
      subst (λ id. Joined ws st i time m bs (started us id s (length bs)) vt) more_id (record {
        shape = begins.shape;
        store = put.store;
        options = begins.options ∙ hung.1.options ∙ put.options;
        interleaving = ap (λ (t : Totals). t.interleaving) begins.totals ∙ interleaving_us;
        total = ap (λ (t : Totals). t.total) begins.totals ∙ total_us;
        next_id = ap (λ (t : Totals). t.next_message_id.0) begins.totals ∙ next_us;
        streams = begins.streams ∙ streams_us;
        scheduler = begins.scheduler ∙ rw (interleaving_us, scheduler_us) (sym (model_starts (totals_at ws).interleaving old more (model_scheduler ws) (starts s) starts_old));
      })

-- The same, with the first free place.
pub joined : (ws st : List ℕ) (g : Shape ws st) → AllKnown ws st → (i : ℕ) → i < (totals_at ws).known → (time : ℕ) (m : Message) (bs : List ℕ)
    → id_at ws i ≡ m.stream_id.0 → FitsItem (new_item_words time (totals_at ws).next_message_id m) → 1 ≤ length bs → used_of ws + length bs ≤ length st
    → (totals_at ws).total + length bs ≤ 18446744073709551615 → (stream_at_words ws (row_at ws i)).buffered_amount + length bs ≤ 18446744073709551615 → (totals_at ws).waiting < 1024
    → (starts (stream_at_words ws (row_at ws i)) ≡ true → find_active m.stream_id.0 (model_scheduler ws).active ≡ none)
    → Joined ws st i time m bs (appended ws st time m bs (row_at ws i) (stream_at_words ws (row_at ws i))).words (appended ws st time m bs (row_at ws i) (stream_at_words ws (row_at ws i))).store
unfolding appended appended_at
joined ws st g known i hk time m bs id_is fits some_bytes room a b w idle =
    let f = free_place ws st g w in
    rw (le-ltb 1023 (totals_at ws).free (omega (arith, f.in_table_lem)))
    (joined_at ws st g known i hk time m bs id_is fits some_bytes room a b idle (totals_at ws).free f.others f.list_is f.in_table_lem f.behind)
