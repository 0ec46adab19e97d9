-- What passing over leaves of the list of events: how many are counted, how long the list stays, and what is behind its places. Assumes nothing.
use mathlib.Core.Path.{◌≡◌, refl, ◌∙◌}
use mathlib.Core.Logic.{◌⊎◌, inl, inr, ⊎_elim}
use mathlib.Core.Bool.{Bool, true, false}
use mathlib.Core.List.{List, [], ◌∷◌}
use Prim.Native.Nat.{ℕ, zero, suc, ◌+◌, ◌-◌, ◌*◌, ◌≤◌, ◌<◌}
use native.Mathlib.Omega.{arith}
use borrow.Author.Tests.{ltb-true, ltb-false}
use lib.Dec.{ltb, leb, eqb}
use lib.ListN.{length, drop, set, length-set}
use Rattle.queue_words.specs.Flags.{pick}
use Rattle.queue_words.specs.Active.{active_at}
use Rattle.queue_words.specs.Header.{options_at, totals_at}
use Rattle.queue_words.specs.Items.{item_at, are_given}
use Rattle.queue_words.specs.Streams.{stream_at_words}
use Rattle.queue_words.specs.declared.items.Item.{Item}
use Rattle.queue_words.specs.declared.streams.OutgoingStream.{OutgoingStream}
use Rattle.queue_streams.specs.Events.{place_words, event_words, put_event}
use Rattle.queue_streams.specs.Settings.{CalledWith, called_with}
use Rattle.queue_streams.specs.Call.{Call}
use Rattle.queue_streams.specs.Call as call
use Rattle.message_chains.specs.Amounts.{rest}
use Rattle.message_chains.specs.Dropping.{scheduled_behind, end_pending_words, behind_dropped, dropped_in_state}
use Rattle.message_chains.specs.Heads.{head_code, head_dropped, total_notes, stream_notes, sent_notes, drop_notes}
use Rattle.message_chains.specs.Notes.{Notes, notes, noted, low_noted, lifecycle_noted}
use Rattle.queue_sending.specs.Choice.{look_ahead}
use Rattle.queue_sending.specs.Data.{data_to_send, ProducedWith, produced_with, refused_with}
use Rattle.queue_sending.specs.Fragment.{least_of, send_code, written_sent, sent, handed_out_words}
use Rattle.queue_sending.specs.Numbers.{numbered_item, numbered_stream}
use Rattle.payload_store.specs.Reading.{read_part}
use Rattle.queue_sending.specs.Produce.{produce_code, past_from, expired_dropped, after_look, after_drop, pass_over_words, settled_as, settled, produced_past, produced_after, produce_next}
use Rattle.queue_sending.specs.Look.{Look}
use Rattle.queue_sending.specs.Look as look
use Rattle.queue_sending.specs.Produced.{Produced}
use Rattle.queue_sending.specs.Produced as produced

-- ------------------------------------------------------------------ the list stays as long as it is

pick_length : (b : Bool) (x y : Notes) (n : ℕ) → length x.events ≡ n → length y.events ≡ n → length (pick b x y).events ≡ n
pick_length true x y n e g = e
pick_length false x y n e g = g

put_length : (es : List ℕ) (k kind number amount : ℕ) → length (put_event es k kind number amount) ≡ length es
unfolding put_event
put_length es k kind number amount = simp length-set refl

noted_length : (es : List ℕ) (k kind number amount : ℕ) → length (noted es k kind number amount).events ≡ length es
unfolding noted
noted_length es k kind number amount =
    pick_length (ltb 2304 k) _ _ _ refl (pick_length (ltb (length es) event_words) _ (notes (put_event es k kind number amount) (k + 1)) _ refl (put_length es k kind number amount))

low_length : (es : List ℕ) (k kind number threshold old new : ℕ) → length (low_noted es k kind number threshold old new).events ≡ length es
unfolding low_noted
low_length es k kind number threshold old new =
    pick_length (leb old threshold) _ _ _ refl (pick_length (ltb threshold new) _ (noted es k kind number new) _ refl (noted_length es k kind number new))

lifecycle_length : (es : List ℕ) (k id : ℕ) → length (lifecycle_noted es k id).events ≡ length es
unfolding lifecycle_noted
lifecycle_length es k id =
    pick_length (eqb id 0) _ (noted (noted es k 3 id 0).events (noted es k 3 id 0).count 4 id 0) _ refl
    (noted_length (noted es k 3 id 0).events (noted es k 3 id 0).count 4 id 0 ∙ noted_length es k 3 id 0)

pub sent_length : (ws es : List ℕ) (k id : ℕ) (s : OutgoingStream) (n : ℕ) → length (sent_notes ws es k id s n).events ≡ length es
unfolding sent_notes stream_notes total_notes
sent_length ws es k id s n = low_length (total_notes ws es k n).events (total_notes ws es k n).count 1 id s.low_threshold s.buffered_amount (s.buffered_amount - n) ∙ low_length es k 2 0 (options_at ws).total_threshold (totals_at ws).total ((totals_at ws).total - n)

pub drop_length : (ws es : List ℕ) (k id : ℕ) (s : OutgoingStream) (n lifecycle : ℕ) → length (drop_notes ws es k id s n lifecycle).events ≡ length es
unfolding drop_notes
drop_length ws es k id s n lifecycle = lifecycle_length (sent_notes ws es k id s n).events (sent_notes ws es k id s n).count lifecycle ∙ sent_length ws es k id s n

call_length : (b : Bool) (x y : CalledWith) (n : ℕ) → length x.events ≡ n → length y.events ≡ n → length (pick b x y).events ≡ n
call_length true x y n e g = e
call_length false x y n e g = g

head_length : (ws es : List ℕ) (k id row : ℕ) (s : OutgoingStream) (m : Item) → length (dropped_in_state ws es k id row s m).events ≡ length es
unfolding dropped_in_state behind_dropped
head_length ws es k id row s m =
    let o = scheduled_behind ws id s m.next in
    let d = drop_notes o.next es k id s (rest m) m.lifecycle_id in
    call_length (ltb 0 (head_code ws s s.first m.next (rest m))) _ _ _ refl
    (call_length o.done (called_with (call.Accepted d.count) (head_dropped o.next row s (end_pending_words s.pause_state) m) d.events) (called_with (call.Refused 16) ws es) _
    (drop_length o.next es k id s (rest m) m.lifecycle_id) refl)

expired_length : (ws es : List ℕ) (k id row : ℕ) → length (expired_dropped ws es k id row).events ≡ length es
unfolding expired_dropped
expired_length ws es k id row =
    call_length (ltb 255 row) _ _ _ refl
    (call_length (ltb 1023 (stream_at_words ws row).first) _ (dropped_in_state ws es k id row (stream_at_words ws row) (item_at ws (stream_at_words ws row).first)) _ refl
    (head_length ws es k id row (stream_at_words ws row) (item_at ws (stream_at_words ws row).first)))

-- ------------------------------------------------------------------ the count

noted_count : (es : List ℕ) (k kind number amount : ℕ) → event_words ≤ length es → k ≤ 2304 → (noted es k kind number amount).count ≤ k + 1
unfolding noted
noted_count es k kind number amount h g = by (ltb 2304 k) (ltb (length es) event_words) refl refl
  where
    by : (a b : Bool) → ltb 2304 k ≡ a → ltb (length es) event_words ≡ b → (pick a (notes es 2306) (pick b (notes es 2306) (notes (put_event es k kind number amount) (k + 1)))).count ≤ k + 1
    by true b e f = absurd (omega (arith, ltb-true 2304 k e))
    by false true e f = absurd (omega (arith, ltb-true (length es) event_words f))
    by false false e f = omega arith

low_count : (es : List ℕ) (k kind number threshold old new : ℕ) → event_words ≤ length es → k ≤ 2304 → (low_noted es k kind number threshold old new).count ≤ k + 1
unfolding low_noted
low_count es k kind number threshold old new h g = by (leb old threshold) (ltb threshold new)
  where
    by : (a b : Bool) → (pick a (notes es k) (pick b (notes es k) (noted es k kind number new))).count ≤ k + 1
    by true b = omega arith
    by false true = omega arith
    by false false = noted_count es k kind number new h g

total_count : (ws es : List ℕ) (k n : ℕ) → event_words ≤ length es → k ≤ 2304 → (total_notes ws es k n).count ≤ k + 1
unfolding total_notes
total_count ws es k n h g = low_count es k 2 0 (options_at ws).total_threshold (totals_at ws).total ((totals_at ws).total - n) h g

total_length : (ws es : List ℕ) (k n : ℕ) → length (total_notes ws es k n).events ≡ length es
unfolding total_notes
total_length ws es k n = low_length es k 2 0 (options_at ws).total_threshold (totals_at ws).total ((totals_at ws).total - n)

-- Sending reports at most two events.
pub sent_count : (ws es : List ℕ) (k id : ℕ) (s : OutgoingStream) (n : ℕ) → event_words ≤ length es → k ≤ 2303 → (sent_notes ws es k id s n).count ≤ k + 2
unfolding sent_notes stream_notes
sent_count ws es k id s n h g =
    let a : (total_notes ws es k n).count ≤ k + 1 = total_count ws es k n h (omega arith) in
    let l : event_words ≤ length (total_notes ws es k n).events = omega (arith, h, total_length ws es k n) in
    omega (arith, a, low_count (total_notes ws es k n).events (total_notes ws es k n).count 1 id s.low_threshold s.buffered_amount (s.buffered_amount - n) l (omega (arith, a, g)))

-- The events that an answer counts.
abbrev pub event_count : Produced → ℕ
event_count (produced.Nothing k) = k
event_count (produced.Fragment k d) = k
event_count (produced.Refused code) = 0

-- An answer counts no more events than a list has places.
abbrev pub Few : ProducedWith → Type 0
Few p = event_count p.answer ≤ 2305

few_refused : (code : ℕ) (ws es bs : List ℕ) → Few (refused_with code ws es bs)
few_refused code ws es bs = omega arith

few_pick : (b : Bool) (p q : ProducedWith) → (b ≡ true → Few p) → (b ≡ false → Few q) → Few (pick b p q)
few_pick true p q f g = f refl
few_pick false p q f g = g refl

sent_few : (ws st es bs : List ℕ) (k at id row : ℕ) (s : OutgoingStream) (m : Item) (n : ℕ) → event_words ≤ length es → k ≤ 2303 → Few (sent ws st es bs k at id row s m n)
unfolding sent
sent_few ws st es bs k at id row s m n h g =
    few_pick (ltb 0 (send_code ws (length st) s m n (length bs))) (refused_with (send_code ws (length st) s m n (length bs)) ws es bs)
    (produced_with (produced.Fragment (sent_notes ws es k id s n).count (data_to_send id (numbered_item s m) n)) (written_sent ws at id row (numbered_stream s m) (numbered_item s m) n (are_given m.numbers))
    (sent_notes ws es k id s n).events (read_part ws st s.first m.offset n bs))
    (λ e. few_refused (send_code ws (length st) s m n (length bs)) ws es bs)
    (λ e. omega (arith, g, sent_count ws es k id s n h g))

hand_few : (ws st es bs : List ℕ) (size k at id row : ℕ) → event_words ≤ length es → Few (handed_out_words ws st es bs size k at id row)
unfolding handed_out_words
hand_few ws st es bs size k at id row h =
    few_pick (ltb 2303 k) (refused_with 16 ws es bs) _ (λ e. few_refused 16 ws es bs)
    (λ f. few_pick (ltb 255 at) (refused_with 16 ws es bs) _ (λ e. few_refused 16 ws es bs)
    (λ e. few_pick (ltb 255 row) (refused_with 16 ws es bs) _ (λ e. few_refused 16 ws es bs)
    (λ e. few_pick (ltb 1023 (stream_at_words ws row).first) (refused_with 16 ws es bs) _ (λ e. few_refused 16 ws es bs)
    (λ e. sent_few ws st es bs k at id row (stream_at_words ws row) (item_at ws (stream_at_words ws row).first) (least_of (active_at ws at).bytes_remaining size) h (ltb-false 2303 k f)))))

look_few : (expired : ℕ → ℕ → ProducedWith) (ws st es bs : List ℕ) (size k : ℕ) → ((id row : ℕ) → Few (expired id row)) → event_words ≤ length es
    → (l : Look) → Few (after_look expired ws st es bs size k l)
look_few expired ws st es bs size k f h look.Nothing =
    few_pick (ltb 2305 k) (refused_with 16 ws es bs) (produced_with (produced.Nothing k) ws es bs) (λ e. few_refused 16 ws es bs) (λ e. ltb-false 2305 k e)
look_few expired ws st es bs size k f h look.Broken = few_refused 16 ws es bs
look_few expired ws st es bs size k f h (look.Expired id row) = f id row
look_few expired ws st es bs size k f h (look.Chosen at id row) = hand_few ws st es bs size k at id row h

drop_few : (again : List ℕ → List ℕ → ℕ → ProducedWith) (ws es bs : List ℕ) → event_words ≤ length es → ((l v : List ℕ) (j : ℕ) → event_words ≤ length v → Few (again l v j))
    → (d : Call) → Few (after_drop again ws es bs d)
drop_few again ws es bs h f (call.Accepted j) = f ws es j h
drop_few again ws es bs h f (call.Refused code) = few_refused code ws es bs

pub pass_few : (n : ℕ) (ws st es bs : List ℕ) (time size k : ℕ) → event_words ≤ length es → Few (pass_over_words n ws st es bs time size k)
unfolding pass_over_words
pass_few zero ws st es bs time size k h = look_few (λ (id row : ℕ). refused_with 16 ws es bs) ws st es bs size k (λ id row. few_refused 16 ws es bs) h (look_ahead ws time)
pass_few (suc n) ws st es bs time size k h =
    look_few _ ws st es bs size k
    (λ id row. drop_few (λ (l v : List ℕ) (j : ℕ). pass_over_words n l st v bs time size j) (expired_dropped ws es k id row).next (expired_dropped ws es k id row).events bs
    (omega (arith, h, expired_length ws es k id row)) (λ l v j g. pass_few n l st v bs time size j g) (expired_dropped ws es k id row).answer)
    h (look_ahead ws time)

past_few : (ws st es bs : List ℕ) (time size k : ℕ) → event_words ≤ length es → Few (produced_past ws st es bs time size k)
unfolding produced_past past_from
past_few ws st es bs time size k h =
    few_pick (ltb 1024 (totals_at ws).waiting) (refused_with 16 ws es bs) (settled ws es bs (pass_over_words (totals_at ws).waiting ws st es bs time size k)) (λ e. few_refused 16 ws es bs)
    (λ e. by (pass_over_words (totals_at ws).waiting ws st es bs time size k) (pass_few (totals_at ws).waiting ws st es bs time size k h) (pass_over_words (totals_at ws).waiting ws st es bs time size k).answer)
  where
    by : (p : ProducedWith) → Few p → (r : Produced) → Few (settled_as ws es bs p r)
    by p f (produced.Nothing k) = f
    by p f (produced.Fragment k d) = f
    by p f (produced.Refused code) = few_refused code ws es bs

-- The call counts no more events than the list has places, where it has them; also after k events.
pub after_few : (ws st es bs : List ℕ) (time size k : ℕ) → event_words ≤ length es → Few (produced_after ws st es bs time size k)
unfolding produced_after
after_few ws st es bs time size k h = look_few (λ (id row : ℕ). produced_past ws st es bs time size k) ws st es bs size k (λ id row. past_few ws st es bs time size k h) h (look_ahead ws time)

pub produce_few : (ws st es bs : List ℕ) (time size : ℕ) → event_words ≤ length es → Few (produce_next ws st es bs time size)
unfolding produce_next
produce_few ws st es bs time size h =
    few_pick (ltb 0 (produce_code ws (length st) (length es) (length bs) time size)) (refused_with (produce_code ws (length st) (length es) (length bs) time size) ws es bs)
    (produced_after ws st es bs time size 0) (λ e. few_refused (produce_code ws (length st) (length es) (length bs) time size) ws es bs)
    (λ e. after_few ws st es bs time size 0 h)

-- ------------------------------------------------------------------ places past what is written

-- The words behind the 2,305 places.
abbrev pub behind : List ℕ → List ℕ
behind es = drop event_words es

drop_set : (n : ℕ) (es : List ℕ) (i v : ℕ) → i < n → drop n (set es i v) ≡ drop n es
drop_set zero es i v h = absurd (omega arith)
drop_set (suc n) [] i v h = refl
drop_set (suc n) (x ∷ xs) zero v h = refl
drop_set (suc n) (x ∷ xs) (suc i) v h = drop_set n xs i v (omega arith)

put_far : (m : ℕ) (es : List ℕ) (k kind number amount : ℕ) → (k + 1) * place_words ≤ m → drop m (put_event es k kind number amount) ≡ drop m es
unfolding put_event
put_far m es k kind number amount h = drop_set m (set (set es (k * place_words) kind) (k * place_words + 1) number) (k * place_words + 2) amount (omega arith) ∙ drop_set m (set es (k * place_words) kind) (k * place_words + 1) number (omega arith) ∙ drop_set m es (k * place_words) kind (omega arith)

-- of the most places from k on, those that the list has are in its first m words
abbrev pub Fits : ℕ → ℕ → ℕ → Type 0
Fits m k most = (j : ℕ) → j ≤ 2304 → j < k + most → (j + 1) * place_words ≤ m

-- x is es with at most n events in the places from k on, all in the first m words; its count fits them or says that the list is full
pub record Wrote (m k n : ℕ) (es : List ℕ) (x : Notes) : Type 0 where
  pub count : (x.count ≤ k + n) ⊎ (2304 < x.count)
  pub far : drop m x.events ≡ drop m es

module _ (m k most : ℕ) (fits : Fits m k most) (es : List ℕ) where
  wrote_full : (n : ℕ) (x : Notes) → Wrote m k n es x → Wrote m k (suc n) es (notes x.events 2306)
  wrote_full n x w = record { count = inr (omega arith); far = w.far }

  wrote_more : (n : ℕ) (x : Notes) → Wrote m k n es x → Wrote m k (suc n) es x
  wrote_more n x w = record { count = ⊎_elim (λ c. inl (omega arith)) (λ l. inr l) w.count; far = w.far }

  wrote_put : (n : ℕ) (x : Notes) (kind number amount : ℕ) → n < most → Wrote m k n es x → x.count ≤ 2304
      → Wrote m k (suc n) es (notes (put_event x.events x.count kind number amount) (x.count + 1))
  wrote_put n x kind number amount l w h = by w.count
    where
      by : (x.count ≤ k + n) ⊎ (2304 < x.count) → Wrote m k (suc n) es (notes (put_event x.events x.count kind number amount) (x.count + 1))
      by (inr g) = absurd (omega arith)
      by (inl g) = record { count = inl (omega arith); far = put_far m x.events x.count kind number amount (fits x.count h (omega arith)) ∙ w.far }

  wrote_noted : (n : ℕ) (x : Notes) (kind number amount : ℕ) → n < most → Wrote m k n es x → Wrote m k (suc n) es (noted x.events x.count kind number amount)
  unfolding noted
  wrote_noted n x kind number amount l w = by (ltb 2304 x.count) (ltb (length x.events) event_words) refl
    where
      by : (a b : Bool) → ltb 2304 x.count ≡ a
          → Wrote m k (suc n) es (pick a (notes x.events 2306) (pick b (notes x.events 2306) (notes (put_event x.events x.count kind number amount) (x.count + 1))))
      by true b e = wrote_full n x w
      by false true e = wrote_full n x w
      by false false e = wrote_put n x kind number amount l w (ltb-false 2304 x.count e)

  wrote_low : (n : ℕ) (x : Notes) (kind number threshold old new : ℕ) → n < most → Wrote m k n es x → Wrote m k (suc n) es (low_noted x.events x.count kind number threshold old new)
  unfolding low_noted
  wrote_low n x kind number threshold old new l w = by (leb old threshold) (ltb threshold new)
    where
      by : (a b : Bool) → Wrote m k (suc n) es (pick a (notes x.events x.count) (pick b (notes x.events x.count) (noted x.events x.count kind number new)))
      by true b = wrote_more n x w
      by false true = wrote_more n x w
      by false false = wrote_noted n x kind number new l w

  wrote_lifecycle : (n : ℕ) (x : Notes) (id : ℕ) → suc n < most → Wrote m k n es x → Wrote m k (suc (suc n)) es (lifecycle_noted x.events x.count id)
  unfolding lifecycle_noted
  wrote_lifecycle n x id l w = by (eqb id 0)
    where
      by : (a : Bool) → Wrote m k (suc (suc n)) es (pick a (notes x.events x.count) (noted (noted x.events x.count 3 id 0).events (noted x.events x.count 3 id 0).count 4 id 0))
      by true = wrote_more (suc n) x (wrote_more n x w)
      by false = wrote_noted (suc n) _ 4 id 0 l (wrote_noted n x 3 id 0 (omega arith) w)

  wrote_sent : (n : ℕ) (x : Notes) (ws : List ℕ) (id : ℕ) (s : OutgoingStream) (bytes : ℕ) → suc n < most → Wrote m k n es x
      → Wrote m k (suc (suc n)) es (sent_notes ws x.events x.count id s bytes)
  unfolding sent_notes stream_notes total_notes
  wrote_sent n x ws id s bytes l w =
      wrote_low (suc n) (total_notes ws x.events x.count bytes) 1 id s.low_threshold s.buffered_amount (s.buffered_amount - bytes) l
      (wrote_low n x 2 0 (options_at ws).total_threshold (totals_at ws).total ((totals_at ws).total - bytes) (omega arith) w)

  -- the events of one drop, at most four
  pub wrote_dropped : (n : ℕ) (x : Notes) (ws : List ℕ) (id : ℕ) (s : OutgoingStream) (bytes lifecycle : ℕ) → suc (suc (suc n)) < most → Wrote m k n es x
      → Wrote m k (suc (suc (suc (suc n)))) es (drop_notes ws x.events x.count id s bytes lifecycle)
  unfolding drop_notes
  wrote_dropped n x ws id s bytes lifecycle l w =
      wrote_lifecycle (suc (suc n)) (sent_notes ws x.events x.count id s bytes) lifecycle l (wrote_sent n x ws id s bytes (omega arith) w)

pub wrote_none : (m k : ℕ) (es : List ℕ) → Wrote m k 0 es (notes es k)
wrote_none m k es = record { count = inl (omega arith); far = refl }

-- all places of the list are in its words
all_fit : (k most : ℕ) → Fits event_words k most
all_fit k most j h l = omega arith

sent_behind : (ws es : List ℕ) (k id : ℕ) (s : OutgoingStream) (n : ℕ) → behind (sent_notes ws es k id s n).events ≡ behind es
sent_behind ws es k id s n = (wrote_sent event_words k 2 (all_fit k 2) es 0 (notes es k) ws id s n (omega arith) (wrote_none event_words k es)).far

drop_behind : (ws es : List ℕ) (k id : ℕ) (s : OutgoingStream) (n lifecycle : ℕ) → behind (drop_notes ws es k id s n lifecycle).events ≡ behind es
drop_behind ws es k id s n lifecycle = (wrote_dropped event_words k 4 (all_fit k 4) es 0 (notes es k) ws id s n lifecycle (omega arith) (wrote_none event_words k es)).far

call_behind : (b : Bool) (x y : CalledWith) (l : List ℕ) → behind x.events ≡ l → behind y.events ≡ l → behind (pick b x y).events ≡ l
call_behind true x y l e g = e
call_behind false x y l e g = g

head_behind : (ws es : List ℕ) (k id row : ℕ) (s : OutgoingStream) (m : Item) → behind (dropped_in_state ws es k id row s m).events ≡ behind es
unfolding dropped_in_state behind_dropped
head_behind ws es k id row s m =
    let o = scheduled_behind ws id s m.next in
    let d = drop_notes o.next es k id s (rest m) m.lifecycle_id in
    call_behind (ltb 0 (head_code ws s s.first m.next (rest m))) (called_with (call.Refused (head_code ws s s.first m.next (rest m))) ws es) _ (behind es) refl
    (call_behind o.done (called_with (call.Accepted d.count) (head_dropped o.next row s (end_pending_words s.pause_state) m) d.events) (called_with (call.Refused 16) ws es) (behind es)
    (drop_behind o.next es k id s (rest m) m.lifecycle_id) refl)

expired_behind : (ws es : List ℕ) (k id row : ℕ) → behind (expired_dropped ws es k id row).events ≡ behind es
unfolding expired_dropped
expired_behind ws es k id row =
    call_behind (ltb 255 row) (called_with (call.Refused 16) ws es) _ (behind es) refl
    (call_behind (ltb 1023 (stream_at_words ws row).first) (called_with (call.Refused 16) ws es) (dropped_in_state ws es k id row (stream_at_words ws row) (item_at ws (stream_at_words ws row).first)) (behind es) refl
    (head_behind ws es k id row (stream_at_words ws row) (item_at ws (stream_at_words ws row).first)))

-- "In the event list [..] places past what a call writes stay unchanged": those behind the 2,305 do.
abbrev pub Behind : List ℕ → ProducedWith → Type 0
Behind l p = behind p.events ≡ l

behind_pick : (l : List ℕ) (b : Bool) (p q : ProducedWith) → Behind l p → Behind l q → Behind l (pick b p q)
behind_pick l true p q f g = f
behind_pick l false p q f g = g

sends_behind : (ws st es bs : List ℕ) (k at id row : ℕ) (s : OutgoingStream) (m : Item) (n : ℕ) → Behind (behind es) (sent ws st es bs k at id row s m n)
unfolding sent
sends_behind ws st es bs k at id row s m n =
    behind_pick (behind es) (ltb 0 (send_code ws (length st) s m n (length bs))) (refused_with (send_code ws (length st) s m n (length bs)) ws es bs)
    (produced_with (produced.Fragment (sent_notes ws es k id s n).count (data_to_send id (numbered_item s m) n)) (written_sent ws at id row (numbered_stream s m) (numbered_item s m) n (are_given m.numbers))
    (sent_notes ws es k id s n).events (read_part ws st s.first m.offset n bs))
    refl (sent_behind ws es k id s n)

hand_behind : (ws st es bs : List ℕ) (size k at id row : ℕ) → Behind (behind es) (handed_out_words ws st es bs size k at id row)
unfolding handed_out_words
hand_behind ws st es bs size k at id row =
    behind_pick (behind es) (ltb 2303 k) (refused_with 16 ws es bs) _ refl
    (behind_pick (behind es) (ltb 255 at) (refused_with 16 ws es bs) _ refl
    (behind_pick (behind es) (ltb 255 row) (refused_with 16 ws es bs) _ refl
    (behind_pick (behind es) (ltb 1023 (stream_at_words ws row).first) (refused_with 16 ws es bs) _ refl
    (sends_behind ws st es bs k at id row (stream_at_words ws row) (item_at ws (stream_at_words ws row).first) (least_of (active_at ws at).bytes_remaining size)))))

look_behind : (l : List ℕ) (expired : ℕ → ℕ → ProducedWith) (ws st es bs : List ℕ) (size k : ℕ) → behind es ≡ l → ((id row : ℕ) → Behind l (expired id row))
    → (o : Look) → Behind l (after_look expired ws st es bs size k o)
look_behind l expired ws st es bs size k h f look.Nothing = behind_pick l (ltb 2305 k) (refused_with 16 ws es bs) (produced_with (produced.Nothing k) ws es bs) h h
look_behind l expired ws st es bs size k h f look.Broken = h
look_behind l expired ws st es bs size k h f (look.Expired id row) = f id row
look_behind l expired ws st es bs size k h f (look.Chosen at id row) = hand_behind ws st es bs size k at id row ∙ h

after_behind : (l : List ℕ) (again : List ℕ → List ℕ → ℕ → ProducedWith) (ws es bs : List ℕ) → behind es ≡ l → ((w v : List ℕ) (j : ℕ) → behind v ≡ l → Behind l (again w v j))
    → (d : Call) → Behind l (after_drop again ws es bs d)
after_behind l again ws es bs h f (call.Accepted j) = f ws es j h
after_behind l again ws es bs h f (call.Refused code) = h

pub pass_behind : (l : List ℕ) (n : ℕ) (ws st es bs : List ℕ) (time size k : ℕ) → behind es ≡ l → Behind l (pass_over_words n ws st es bs time size k)
unfolding pass_over_words
pass_behind l zero ws st es bs time size k h = look_behind l (λ (id row : ℕ). refused_with 16 ws es bs) ws st es bs size k h (λ id row. h) (look_ahead ws time)
pass_behind l (suc n) ws st es bs time size k h =
    look_behind l _ ws st es bs size k h
    (λ id row. after_behind l (λ (w v : List ℕ) (j : ℕ). pass_over_words n w st v bs time size j) (expired_dropped ws es k id row).next (expired_dropped ws es k id row).events bs
    (expired_behind ws es k id row ∙ h) (λ w v j g. pass_behind l n w st v bs time size j g) (expired_dropped ws es k id row).answer)
    (look_ahead ws time)
