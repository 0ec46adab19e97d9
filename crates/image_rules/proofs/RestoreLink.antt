-- What restoring counts: the streams, messages and bytes of the restored streams are those that the image's code counts by position. Assumes nothing.
use mathlib.Core.Path.{◌≡◌, refl, sym, ap, ap₂, ◌∙◌, subst}
use mathlib.Core.Bool.{Bool, true, false}
use mathlib.Core.List.{List, [], ◌∷◌, map}
use mathlib.Core.Option.{none, some}
use Prim.Native.Nat.{ℕ, zero, suc, ◌+◌, ◌-◌, ◌≤◌, ◌<◌}
use native.Mathlib.Omega.{arith}
use borrow.Author.Tests.{lt-ltb, le-ltb, eq-eqb, ne_eqb}
use lib.Dec.{eqb}
use lib.ListN.{length}
use Rattle.queue_words.specs.Flags.{pick}
use Rattle.payload_store.proofs.Cases.{by_index}
use Rattle.queue_model.specs.Logic.{is_some}
use Rattle.queue_model.specs.Table.{sum_by}
use Rattle.queue_model.specs.Types.{Item, Stream, Options}
use Rattle.queue_model.specs.Streams.{stream_key, find_stream, put_stream, new_stream, at, with_message, waiting, payload_bytes, occupied}
use Rattle.queue_model.specs.Image.{MessageRecord}
use Rattle.queue_model.specs.Restore.{restored_stream, restored_item, restore_message, restore_messages}
use Rattle.queue_model.proofs.Table.{find_nil, find_here, find_there, find_put_same, find_put_other, found, missing, look_up, After, Rising, rising_put, sum_put_new, sum_put_old, length_sum}
use Rattle.queue_model.proofs.Streams.{at_id, sum_put_at, payload_snoc, length_snoc}
use Rattle.queue_model.proofs.Demand3.Restored.{restore_message_of, restore_messages_cons, restore_messages_nil}
use Rattle.handover_records.specs.Records.{stream_at_words, message_at}
use Rattle.handover_records.specs.Positions.{stream_record_at, record_at, messages_from}
use Rattle.handover_records.proofs.Steps.{messages_none, messages_step}
use Rattle.image_rules.specs.Streams.{streams_right_words, named}
use Rattle.image_rules.specs.Messages.{messages_right_words}
use Rattle.image_rules.specs.Amounts.{payload_bytes_words, one_new, new_streams}
use Rattle.image_rules.proofs.Loops.{First, first_right}
use Rattle.image_rules.proofs.StreamFacts.{right_first}
use Rattle.image_rules.proofs.StreamLink.{streams_on, id_same}
use Rattle.image_rules.proofs.MessageLink.{payload_long, message_id_same}
use Rattle.queue_words.proofs.Finds.{by_lt}

-- ------------------------------------------------------------------ one message more

-- Whether a stream is known.
abbrev pub known : ℕ → List Stream → Bool
known id ss = is_some (find_stream id ss)

known_some : (id : ℕ) (ss : List Stream) (s : Stream) → find_stream id ss ≡ some s → known id ss ≡ true
unfolding is_some
known_some id ss s e = ap is_some e

known_none : (id : ℕ) (ss : List Stream) → find_stream id ss ≡ none → known id ss ≡ false
unfolding is_some
known_none id ss e = ap is_some e

pub put_length : (s : Stream) (ss : List Stream) → Rising stream_key ss → length (put_stream s ss) ≡ length ss + pick (known s.id ss) 0 1
put_length s ss r = elim (look_up stream_key s.id ss) [
  | found s₀ e ↦ (let a = sum_put_old stream_key (λ _. 1) s s₀ ss r e in rw (known_some s.id ss s₀ e) (omega (arith, a, length_sum ss, length_sum (put_stream s ss))))
  | missing e ↦ (let a = sum_put_new stream_key (λ _. 1) s ss e in rw (known_none s.id ss e) (omega (arith, a, length_sum ss, length_sum (put_stream s ss))))
]

module _ (o : Options) (time : ℕ) (r : MessageRecord) (ss : List Stream) (rising : Rising stream_key ss) where
  with_new : Stream
  with_new = with_message (at o ss r.id) (restored_item time r)

  new_id : with_new.id ≡ r.id
  unfolding with_new
  new_id = at_id o ss r.id

  message_of : restore_message o time r ss ≡ put_stream with_new ss
  unfolding with_new
  message_of = restore_message_of o time r ss

  pub more_length : length (restore_message o time r ss) ≡ length ss + pick (known r.id ss) 0 1
  more_length = ap length message_of ∙ put_length with_new ss rising ∙ ap (λ k. length ss + pick (known k ss) 0 1) new_id

  pub more_rising : Rising stream_key (restore_message o time r ss)
  more_rising = subst (Rising stream_key) (sym message_of) (rising_put stream_key with_new ss rising)

  pub more_known : known r.id (restore_message o time r ss) ≡ true
  more_known = known_some r.id (restore_message o time r ss) with_new (ap₂ find_stream (sym new_id) message_of ∙ find_put_same stream_key with_new ss)

  pub more_other : (k : ℕ) → (r.id ≡ k → ⊥) → known k (restore_message o time r ss) ≡ known k ss
  unfolding is_some
  more_other k n = ap is_some (ap (find_stream k) message_of ∙ find_put_other stream_key k with_new ss (λ e. n (sym new_id ∙ e)))

  -- A measure of streams that a message adds to.
  more_sum : (f : Stream → ℕ) (g : Item → ℕ) → ((k : ℕ) → f (new_stream o k) ≡ 0) → ((s : Stream) (i : Item) → f (with_message s i) ≡ f s + g i)
      → sum_by f (restore_message o time r ss) ≡ sum_by f ss + g (restored_item time r)
  unfolding with_new
  more_sum f g z a =
      let p : sum_by f (put_stream with_new ss) + f (at o ss with_new.id) ≡ sum_by f ss + f with_new = sum_put_at f o with_new ss rising (z with_new.id) in
      let q : f (at o ss with_new.id) ≡ f (at o ss r.id) = ap (λ k. f (at o ss k)) new_id in
      let w : f with_new ≡ f (at o ss r.id) + g (restored_item time r) = a (at o ss r.id) (restored_item time r) in
      ap (sum_by f) message_of ∙ omega (arith, p, q, w)

  pub more_waiting : waiting (restore_message o time r ss) ≡ waiting ss + 1
  more_waiting = more_sum (λ (s : Stream). length s.items) (λ (i : Item). 1) (λ k. refl) (λ s i. omega (arith, length_snoc s.items i))

  pub more_occupied : occupied (restore_message o time r ss) ≡ occupied ss + length r.payload
  unfolding restored_item
  more_occupied = more_sum (λ (s : Stream). payload_bytes s.items) (λ (i : Item). length i.payload) (λ k. refl) (λ s i. payload_snoc s.items i)

-- ------------------------------------------------------------------ the recorded streams

-- The streams of n records from `at` on.
abbrev pub base : Options → List ℕ → ℕ → ℕ → List Stream
base o bs at n = map (restored_stream o) (streams_on bs at n)

module _ (o : Options) (bs : List ℕ) where
  first_stream : ℕ → Stream
  first_stream at = restored_stream o (stream_record_at bs at)

  first_id : (at : ℕ) → (first_stream at).id ≡ (stream_at_words bs at).id
  unfolding first_stream restored_stream
  first_id at = id_same bs at

  first_items : (at : ℕ) → (first_stream at).items ≡ []
  unfolding first_stream restored_stream
  first_items at = refl

  base_zero : (at : ℕ) → base o bs at 0 ≡ []
  unfolding streams_on
  base_zero at = refl

  base_suc : (at n : ℕ) → base o bs at (suc n) ≡ first_stream at ∷ base o bs (at + 14) n
  unfolding streams_on first_stream
  base_suc at n = refl

  pub base_length : (at n : ℕ) → length (base o bs at n) ≡ n
  base_length at zero = ap length (base_zero at)
  base_length at (suc n) = ap length (base_suc at n) ∙ ap suc (base_length (at + 14) n)

  pub base_sum : (f : Stream → ℕ) → ((s : Stream) → s.items ≡ [] → f s ≡ 0) → (at n : ℕ) → sum_by f (base o bs at n) ≡ 0
  base_sum f z at zero = ap (sum_by f) (base_zero at)
  base_sum f z at (suc n) = ap (sum_by f) (base_suc at n) ∙ omega (arith, z (first_stream at) (first_items at), base_sum f z (at + 14) n)

  pub base_known : (id at n : ℕ) → known id (base o bs at n) ≡ named bs id at n
  unfolding is_some named
  base_known id at zero = ap (known id) (base_zero at) ∙ ap is_some (find_nil stream_key id)
  base_known id at (suc n) = ap (known id) (base_suc at n) ∙ by_index (stream_at_words bs at).id id here (there (base_known id (at + 14) n))
    where
      here : (stream_at_words bs at).id ≡ id → known id (first_stream at ∷ base o bs (at + 14) n) ≡ pick (eqb (stream_at_words bs at).id id) true (named bs id (at + 14) n)
      here e = ap is_some (find_here stream_key id (first_stream at) (base o bs (at + 14) n) (first_id at ∙ e)) ∙ sym (rw (eq-eqb (stream_at_words bs at).id id e))

      there : known id (base o bs (at + 14) n) ≡ named bs id (at + 14) n → ((stream_at_words bs at).id ≡ id → ⊥) → known id (first_stream at ∷ base o bs (at + 14) n) ≡ pick (eqb (stream_at_words bs at).id id) true (named bs id (at + 14) n)
      there ih ne = ap is_some (find_there stream_key id (first_stream at) (base o bs (at + 14) n) (λ e. ne (sym (first_id at) ∙ e))) ∙ ih ∙ sym (rw (ne_eqb (stream_at_words bs at).id id ne))

  -- The ids rise.
  base_after : (d k at least n : ℕ) → k < least → streams_right_words bs d at least n ≡ true → After stream_key k (base o bs at n)
  base_after d k at least zero h e = subst (After stream_key k) (sym (base_zero at)) tt
  base_after d k at least (suc n) h e =
      let f = right_first bs d at least n e in
      subst (After stream_key k) (sym (base_suc at n))
      (omega (arith, h, f.low, first_id at), base_after d k (at + 14) ((stream_at_words bs at).id + 1) n (omega (arith, h, f.low)) f.rest)

  pub base_rising : (d at least n : ℕ) → streams_right_words bs d at least n ≡ true → Rising stream_key (base o bs at n)
  base_rising d at least zero e = subst (Rising stream_key) (sym (base_zero at)) tt
  base_rising d at least (suc n) e =
      let f = right_first bs d at least n e in
      subst (Rising stream_key) (sym (base_suc at n))
      (base_after d (first_stream at).id (at + 14) ((stream_at_words bs at).id + 1) n (omega (arith, first_id at)) f.rest, base_rising d (at + 14) ((stream_at_words bs at).id + 1) n f.rest)

-- ------------------------------------------------------------------ all messages

-- Streams between two messages: `least` is one above the last message's id. From there on the known streams are those that the records name.
pub record Between (bs : List ℕ) (records least : ℕ) (ss : List Stream) : Type 0 where
  pub rising : Rising stream_key ss
  pub named_on : (id : ℕ) → least ≤ id → known id ss ≡ named bs id 0 records
  pub last_known : (id : ℕ) → id + 1 ≡ least → known id ss ≡ true

one_new_lem : (bs : List ℕ) (records least id : ℕ) (ss : List Stream) → Between bs records least ss → least ≤ id + 1 → pick (known id ss) 0 1 ≡ one_new bs records least id
unfolding one_new
one_new_lem bs records least id ss b h = by_lt id least
    (λ l. rw (b.last_known id (omega (arith, h, l)), lt-ltb id least l))
    (λ l. rw (b.named_on id l, le-ltb id least l))

module _ (o : Options) (time : ℕ) (bs : List ℕ) (records : ℕ) where
  between_next : (r : MessageRecord) (least : ℕ) (ss : List Stream) → least ≤ r.id + 1 → Between bs records least ss → Between bs records (r.id + 1) (restore_message o time r ss)
  between_next r least ss h b = record {
    rising = more_rising o time r ss b.rising;
    named_on = λ id l. more_other o time r ss b.rising id (λ e. omega (arith, e, l)) ∙ b.named_on id (omega (arith, h, l));
    last_known = λ id e. let g : r.id ≡ id = omega (arith, e) in ap (λ k. known k (restore_message o time r ss)) (sym g) ∙ more_known o time r ss b.rising;
  }

  -- What the messages add to some streams.
  pub record Added (at least n : ℕ) (ss ss' : List Stream) : Type 0 where
    pub streams : length ss' ≡ length ss + new_streams bs records at least n
    pub messages : waiting ss' ≡ waiting ss + n
    pub bytes : occupied ss' ≡ occupied ss + payload_bytes_words bs at n
    pub rises : Rising stream_key ss'

  added_none : (at least : ℕ) (ss : List Stream) → Rising stream_key ss → Added at least 0 ss ss
  unfolding new_streams payload_bytes_words
  added_none at least ss r = record { streams = omega arith; messages = omega arith; bytes = omega arith; rises = r }

  new_suc : (at least n : ℕ) → new_streams bs records at least (suc n)
      ≡ one_new bs records least (message_at bs at).id + new_streams bs records (at + 44 + (message_at bs at).length) ((message_at bs at).id + 1) n
  unfolding new_streams
  new_suc at least n = refl

  bytes_suc : (at n : ℕ) → payload_bytes_words bs at (suc n) ≡ (message_at bs at).length + payload_bytes_words bs (at + 44 + (message_at bs at).length) n
  unfolding payload_bytes_words
  bytes_suc at n = refl

  added_suc : (at least n : ℕ) (ss s₁ ss' : List Stream) → length s₁ ≡ length ss + one_new bs records least (message_at bs at).id → waiting s₁ ≡ waiting ss + 1
      → occupied s₁ ≡ occupied ss + (message_at bs at).length → Added (at + 44 + (message_at bs at).length) ((message_at bs at).id + 1) n s₁ ss' → Added at least (suc n) ss ss'
  added_suc at least n ss s₁ ss' l w p a = record {
    streams = omega (arith, l, a.streams, new_suc at least n);
    messages = omega (arith, w, a.messages);
    bytes = omega (arith, p, a.bytes, bytes_suc at n);
    rises = a.rises;
  }

  -- The first n of m messages, which all keep the rules.
  pub all_added : (n m at left least : ℕ) (ss : List Stream) → n ≤ m → at + left ≤ length bs → messages_right_words bs at left least m ≡ true → Between bs records least ss
      → Added at least n ss (restore_messages o time (messages_from bs at n) ss)
  all_added zero m at left least ss h inside e b =
      subst (Added at least 0 ss) (sym (ap (λ ms. restore_messages o time ms ss) (messages_none bs at) ∙ restore_messages_nil o time ss)) (added_none at least ss b.rising)
  all_added (suc n) zero at left least ss h inside e b = absurd (omega (arith, h))
  all_added (suc n) (suc m) at left least ss h inside e b = step (first_right bs at left least m e) (λ s f g k. all_added n m _ _ _ s (omega (arith, h)) f g k)
    where
      step : First bs at left least m
          → ((s : List Stream) → at + 44 + (message_at bs at).length + (left - 44 - (message_at bs at).length) ≤ length bs
          → messages_right_words bs (at + 44 + (message_at bs at).length) (left - 44 - (message_at bs at).length) ((message_at bs at).id + 1) m ≡ true
          → Between bs records ((message_at bs at).id + 1) s
          → Added (at + 44 + (message_at bs at).length) ((message_at bs at).id + 1) n s (restore_messages o time (messages_from bs (at + 44 + (message_at bs at).length) n) s))
          → Added at least (suc n) ss (restore_messages o time (messages_from bs at (suc n)) ss)
      step f ih =
          let i : (record_at bs at).id ≡ (message_at bs at).id = message_id_same bs at in
          let s₁ : List Stream = restore_message o time (record_at bs at) ss in
          let long : length (record_at bs at).payload ≡ (message_at bs at).length = payload_long bs at (omega (arith, inside, f.whole, f.fits)) in
          let next : Between bs records ((record_at bs at).id + 1) s₁ = between_next (record_at bs at) least ss (omega (arith, i, f.order)) b in
          let rest = ih s₁ (omega (arith, inside, f.whole, f.fits)) f.rest (subst (λ k. Between bs records (k + 1) s₁) i next) in
          subst (Added at least (suc n) ss) (sym (ap (λ ms. restore_messages o time ms ss) (messages_step bs at n) ∙ restore_messages_cons o time (record_at bs at) (messages_from bs (at + 44 + (message_at bs at).length) n) ss))
          (added_suc at least n ss s₁ _
          (more_length o time (record_at bs at) ss b.rising ∙ ap (λ k. length ss + k) (ap (λ k. pick (known k ss) 0 1) i ∙ one_new_lem bs records least (message_at bs at).id ss b f.order))
          (more_waiting o time (record_at bs at) ss b.rising)
          (more_occupied o time (record_at bs at) ss b.rising ∙ ap (λ k. occupied ss + k) long)
          rest)
