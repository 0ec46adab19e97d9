-- For every call of the model there is a call with the same step, or it is refused whatever the queue. Assumes nothing.
use mathlib.Core.Path.{◌≡◌, refl, sym, ap, ap₂, subst, ◌∙◌}
use mathlib.Core.Bool.{Bool, true, false, not}
use mathlib.Core.List.{List, []}
use mathlib.Core.Option.{Option, none, some, get_or}
use Prim.Native.Nat.{ℕ, ◌+◌, ◌^◌, ◌≤◌, ◌<◌, zero, suc}
use native.Mathlib.Omega.{arith}
use borrow.Author.Tests.{lt-ltb, le-ltb, eq-eqb, ne_eqb}
use lib.Dec.{T, eqb, ltb}
use lib.Pow.{are_bytes}
use lib.ListN.{length, replicate, length-replicate}
use Rattle.queue_words.specs.Flags.{pick}
use Rattle.payload_store.proofs.Cases.{by_index}
use Rattle.queue_model.specs.Types as plain
use Rattle.queue_model.specs.Types.{Queue, refuse}
use Rattle.queue_model.specs.Demands as demands
use Rattle.queue_model.specs.Run as run
use Rattle.queue_model.specs.Refusals.{first_refusal, refused_or, checked, max_time}
use Rattle.queue_model.specs.Add as add
use Rattle.queue_model.specs.Produce as produce
use Rattle.queue_model.specs.Fill as fill
use Rattle.queue_model.specs.Fill.{Filling, one_more, and_on, asked, fill_on, filling, filled_with}
use Rattle.queue_model.specs.Answers.{fragment_in}
use Rattle.queue_model.specs.Chunks.{chunk_length}
use Rattle.queue_model.specs.Discard as discard
use Rattle.queue_model.specs.Close as close
use Rattle.queue_model.specs.Settings as settings
use Rattle.queue_model.specs.Image.{Handover}
use Rattle.queue_model.specs.Restore as restore
use Rattle.queue_model.proofs.Checks.{restore_of}
use Rattle.queue_streams.specs.Events.{event_words, places_in}
use Rattle.std.specs.Prelude.{Some, None}
use Rattle.queue_messages.specs.Message.{Lifetime, MaxRetransmissions}
use Rattle.queue_messages.specs.declared.message.Message.{Message}
use Rattle.linked_adding.specs.Message.{message_of_words, retransmissions_of, lifetime_of}
use Rattle.packets.specs.declared.packet.Packet.{Packet}
use Rattle.packets.specs.Filling.{packet_of}
use Rattle.queue_runs.specs.Calls as calls
use Rattle.queue_runs.specs.Calls.{Call, call_of, are_words, Words, Typed}
use Rattle.queue_runs.proofs.Tells.{Long}
use Rattle.queue_runs.proofs.Images.{read_long, read_nil}
use Rattle.queue_words.proofs.Finds.{by_lt}

-- ------------------------------------------------------------------ what is to be shown

-- On queues with a store of this length the call is refused with n whatever the queue; or it is the step of a call of the code, whose list of events is long.
pub data Translates (len : ℕ) (m : run.Call) : Type 0 where
  left_out : (n : ℕ) → ((q : Queue) → q.options.store_length ≡ len → run.step m q ≡ refuse q n) → Translates len m
  stands_for : (c : Call) → Typed c → Long c → ((q : Queue) → run.step (call_of len c) q ≡ run.step m q) → Translates len m

-- ------------------------------------------------------------------ messages

-- The message with these fields; its payload goes beside it.
retransmissions_back : Option ℕ → MaxRetransmissions
retransmissions_back none = None
retransmissions_back (some n) = Some n

lifetime_back : Option ℕ → Lifetime
lifetime_back none = None
lifetime_back (some n) = Some n

retransmissions_back_lem : (x : Option ℕ) → retransmissions_of (retransmissions_back x) ≡ x
unfolding retransmissions_back
retransmissions_back_lem none = refl
retransmissions_back_lem (some n) = refl

lifetime_back_lem : (x : Option ℕ) → lifetime_of (lifetime_back x) ≡ x
unfolding lifetime_back
lifetime_back_lem none = refl
lifetime_back_lem (some n) = refl

message_back : plain.Message → Message
message_back m = record {
  stream_id = record { 0 = m.stream_id };
  ppid = m.ppid;
  unordered = m.unordered;
  lifetime = lifetime_back m.lifetime;
  max_retransmissions = retransmissions_back m.max_retransmissions;
  lifecycle_id = m.lifecycle_id;
}

message_back_lem : (m : plain.Message) → message_of_words (message_back m) m.payload ≡ m
unfolding message_back
message_back_lem m = λ i. record {
  stream_id = m.stream_id;
  ppid = m.ppid;
  unordered = m.unordered;
  max_retransmissions = retransmissions_back_lem m.max_retransmissions i;
  lifetime = lifetime_back_lem m.lifetime i;
  lifecycle_id = m.lifecycle_id;
  payload = m.payload;
}

-- The packet with these fields.
packet_back : plain.Packet → Packet
packet_back p = record { limit = p.limit; source_port = p.source_port; destination_port = p.destination_port; verification_tag = p.verification_tag; tsn = p.tsn }

packet_back_lem : (p : plain.Packet) → packet_of (packet_back p) ≡ p
unfolding packet_back
packet_back_lem p = refl

-- ------------------------------------------------------------------ checks

-- A store of another length.
other_store : (store len : ℕ) (q : Queue) → (store ≡ len → ⊥) → q.options.store_length ≡ len → not (eqb store q.options.store_length) ≡ true
other_store store len q h e = rw (e, ne_eqb store len h)

same_store : (store len : ℕ) (q : Queue) → store ≡ len → q.options.store_length ≡ len → not (eqb store q.options.store_length) ≡ false
same_store store len q h e = rw (e, eq-eqb store len h)

-- What a message with a payload that is too long is refused with, on a store of the right length.
abbrev add_code : ℕ → plain.Message → ℕ
add_code now m = pick (ltb max_time now) 4 (pick (ltb max_time (get_or m.lifetime 0)) 4 5)

-- ------------------------------------------------------------------ lent lists

-- 2,305 places.
places : List ℕ
places = replicate event_words 0

places_long : length places ≡ event_words
unfolding places
places_long = length-replicate {A = ℕ} event_words 0

pub places_words : (n : ℕ) → T (are_words (replicate n 0))
places_words zero = tt
places_words (suc n) = places_words n

pub zero_bytes : (n : ℕ) → T (are_bytes (replicate n 0))
zero_bytes zero = tt
zero_bytes (suc n) = zero_bytes n

places_lent : Words places
unfolding places
places_lent = (let e = places_long in omega arith, places_words event_words)

enough : ltb (places_in places) 2305 ≡ false
enough = le-ltb (places_in places) 2305 (let e = places_long in omega arith)

-- ------------------------------------------------------------------ steps that do not see how many places more there are

-- A filling sees it in its calls alone.
and_on_same : (n : ℕ) (s : plain.Step) (more less : plain.Fragment → Queue → Filling) → ((f : plain.Fragment) (r : Queue) → more f r ≡ less f r) → (x : Option plain.Fragment) → and_on n s more x ≡ and_on n s less x
unfolding and_on
and_on_same n s more less h none = refl
and_on_same n s more less h (some f) = ap (one_more n s f) (h f s.next)

call_places : (store p r buffer now size : ℕ) → ltb p 2305 ≡ ltb r 2305 → (q : Queue) → produce.produce store p buffer now size q ≡ produce.produce store r buffer now size q
unfolding produce.produce
call_places store p r buffer now size e q = rw e

fill_on_places : (idata : Bool) (store p r now limit : ℕ) → ltb p 2305 ≡ ltb r 2305 → (turns used : ℕ) (q : Queue) → fill_on idata store p now limit turns used q ≡ fill_on idata store r now limit turns used q
unfolding fill_on asked
fill_on_places idata store p r now limit e zero used q = refl
fill_on_places idata store p r now limit e (suc turns) used q = go (λ f x. fill_on_places idata store p r now limit e turns (used + chunk_length idata (length f.bytes)) x) (fill.size_asked idata limit used q)
  where
    more : ℕ → plain.Fragment → Queue → Filling
    more places f x = fill_on idata store places now limit turns (used + chunk_length idata (length f.bytes)) x

    go : ((f : plain.Fragment) (x : Queue) → more p f x ≡ more r f x) → (m : ℕ) → asked store p now q (more p) m ≡ asked store r now q (more r) m
    go h zero = refl
    go h (suc n) =
        ap (λ (s : plain.Step). and_on (suc n) s (more p) (fragment_in s.outcome.answer)) (call_places store p r (suc n) now (suc n) e q)
        ∙ and_on_same (suc n) (produce.produce store r (suc n) now (suc n) q) (more p) (more r) h (fragment_in (produce.produce store r (suc n) now (suc n) q).outcome.answer)

filling_places : (store p r now limit : ℕ) → ltb p 2305 ≡ ltb r 2305 → (q : Queue) → filling store p now limit q ≡ filling store r now limit q
unfolding filling
filling_places store p r now limit e q = fill_on_places q.interleaving store p r now limit e limit fill.common_header_length q

module _ (q : Queue) where
  produce_places : (store p r buffer now size : ℕ) → ltb p 2305 ≡ ltb r 2305 → run.step (run.produce store p buffer now size) q ≡ run.step (run.produce store r buffer now size) q
  unfolding run.step produce.produce
  produce_places store p r buffer now size e = rw e

  fill_places : (store p r buffer now : ℕ) (k : plain.Packet) → ltb p 2305 ≡ ltb r 2305 → run.step (run.fill store p buffer now k) q ≡ run.step (run.fill store r buffer now k) q
  unfolding run.step fill.fill
  fill_places store p r buffer now k e =
      rw e (ap (λ (f : Filling). checked (fill.fill_checks store r buffer now k.limit q) q (filled_with k q f f.fragments f.refusal)) (filling_places store p r now k.limit e q))

  discard_places : (p r s k : ℕ) → ltb p 2305 ≡ ltb r 2305 → run.step (run.discard p s k) q ≡ run.step (run.discard r s k) q
  unfolding run.step discard.discard
  discard_places p r s k e = rw e

  close_places : (p r s : ℕ) → ltb p 2305 ≡ ltb r 2305 → run.step (run.close p s) q ≡ run.step (run.close r s) q
  unfolding run.step close.close
  close_places p r s e = rw e

  threshold_places : (p r s t : ℕ) → ltb p 2305 ≡ ltb r 2305 → run.step (run.set_threshold p s t) q ≡ run.step (run.set_threshold r s t) q
  unfolding run.step settings.set_threshold
  threshold_places p r s t e = rw e

  -- few places
  produce_few : (store len p buffer now size : ℕ) → store ≡ len → q.options.store_length ≡ len → p < 2305 → run.step (run.produce store p buffer now size) q ≡ refuse q 3
  unfolding run.step produce.produce checked first_refusal refused_or
  produce_few store len p buffer now size h e f = rw (same_store store len q h e, lt-ltb p 2305 f)

  fill_outside : (store p buffer now : ℕ) (k : plain.Packet) → k.limit < 36 → run.step (run.fill store p buffer now k) q ≡ refuse q 20
  unfolding run.step fill.fill checked first_refusal refused_or
  fill_outside store p buffer now k h = rw (lt-ltb k.limit 36 h)

  fill_above : (store p buffer now : ℕ) (k : plain.Packet) → 36 ≤ k.limit → 65535 < k.limit → run.step (run.fill store p buffer now k) q ≡ refuse q 20
  unfolding run.step fill.fill checked first_refusal refused_or
  fill_above store p buffer now k g h = rw (le-ltb k.limit 36 g, lt-ltb 65535 k.limit h)

  module _ (store p buffer now : ℕ) (k : plain.Packet) (g : 36 ≤ k.limit) (h : k.limit ≤ 65535) where
    fill_short : buffer < k.limit → run.step (run.fill store p buffer now k) q ≡ refuse q 21
    unfolding run.step fill.fill checked first_refusal refused_or
    fill_short f = rw (le-ltb k.limit 36 g, le-ltb 65535 k.limit h, lt-ltb buffer k.limit f)

    fill_other : (len : ℕ) → k.limit ≤ buffer → (store ≡ len → ⊥) → q.options.store_length ≡ len → run.step (run.fill store p buffer now k) q ≡ refuse q 2
    unfolding run.step fill.fill checked first_refusal refused_or
    fill_other len f n e = rw (le-ltb k.limit 36 g, le-ltb 65535 k.limit h, le-ltb buffer k.limit f, other_store store len q n e)

    fill_few : (len : ℕ) → k.limit ≤ buffer → store ≡ len → q.options.store_length ≡ len → p < 2305 → run.step (run.fill store p buffer now k) q ≡ refuse q 3
    unfolding run.step fill.fill checked first_refusal refused_or
    fill_few len f n e l = rw (le-ltb k.limit 36 g, le-ltb 65535 k.limit h, le-ltb buffer k.limit f, same_store store len q n e, lt-ltb p 2305 l)

  discard_few : (p s k : ℕ) → p < 2305 → run.step (run.discard p s k) q ≡ refuse q 3
  unfolding run.step discard.discard checked first_refusal refused_or
  discard_few p s k f = rw (lt-ltb p 2305 f)

  close_few : (p s : ℕ) → p < 2305 → run.step (run.close p s) q ≡ refuse q 3
  unfolding run.step close.close checked first_refusal refused_or
  close_few p s f = rw (lt-ltb p 2305 f)

  threshold_few : (p s t : ℕ) → p < 2305 → run.step (run.set_threshold p s t) q ≡ refuse q 3
  unfolding run.step settings.set_threshold checked first_refusal refused_or
  threshold_few p s t f = rw (lt-ltb p 2305 f)

  -- another store
  add_other : (store len now : ℕ) (m : plain.Message) → (store ≡ len → ⊥) → q.options.store_length ≡ len → run.step (run.add store now m) q ≡ refuse q 2
  unfolding run.step add.add checked first_refusal refused_or
  add_other store len now m h e = rw (other_store store len q h e)

  produce_other : (store len p buffer now size : ℕ) → (store ≡ len → ⊥) → q.options.store_length ≡ len → run.step (run.produce store p buffer now size) q ≡ refuse q 2
  unfolding run.step produce.produce checked first_refusal refused_or
  produce_other store len p buffer now size h e = rw (other_store store len q h e)

  restore_other : (store len now : ℕ) (image : List ℕ) → (store ≡ len → ⊥) → q.options.store_length ≡ len → run.step (run.restore store now image) q ≡ refuse q 2
  unfolding run.step restore.restore checked first_refusal refused_or
  restore_other store len now image h e = rw (other_store store len q h e)

  -- an image that is too long is refused where the empty one is, and with the same number
  restore_long : (store now : ℕ) (image : List ℕ) → T (are_bytes image) → 2 ^ 64 ≤ length image → run.step (run.restore store now []) q ≡ run.step (run.restore store now image) q
  unfolding run.step
  restore_long store now image b h =
      restore_of store now [] q ∙ ap (λ (x : Option Handover). checked (restore.restore_checks store now q) q (restore.restore_read now q x)) (read_nil ∙ sym (read_long image b h)) ∙ sym (restore_of store now image q)

  -- a payload that is too long: refused for its time, its lifetime or its length
  add_long : (store len now : ℕ) (m : plain.Message) → store ≡ len → q.options.store_length ≡ len → 262144 < length m.payload → run.step (run.add store now m) q ≡ refuse q (add_code now m)
  unfolding run.step add.add checked first_refusal refused_or
  add_long store len now m h e f = rw (same_store store len q h e) (by_lt max_time now
      (λ a. rw (lt-ltb max_time now a))
      (λ a. by_lt max_time (get_or m.lifetime 0)
      (λ b. rw (le-ltb max_time now a, lt-ltb max_time (get_or m.lifetime 0) b))
      (λ b. rw (le-ltb max_time now a, le-ltb max_time (get_or m.lifetime 0) b, le-ltb (length m.payload) 1 (omega arith), lt-ltb 262144 (length m.payload) f))))

-- ------------------------------------------------------------------ every call

-- A call without lent lists.
same : (len : ℕ) (c : Call) (m : run.Call) → Typed c → Long c → call_of len c ≡ m → Translates len m
same len c m t l e = stands_for c t l (λ q. ap (λ (x : run.Call). run.step x q) e)

pub translate : (len : ℕ) (m : run.Call) → demands.Typed m → Translates len m
translate len (run.add store now m) t = by_index store len
    (λ e. by_lt 262144 (length m.payload)
    (λ f. left_out (add_code now m) (λ q h. add_long q store len now m e h f))
    (λ f. same len (calls.add now (message_back m) m.payload) (run.add store now m) (t.1.0, (subst demands.MessageTyped (sym (message_back_lem m)) t.1.1, omega arith)) tt
    (ap₂ (λ (n : ℕ) (x : plain.Message). run.add n now x) (sym e) (message_back_lem m))))
    (λ e. left_out 2 (λ q h. add_other q store len now m e h))
translate len (run.produce store p buffer now size) t = by_index store len
    (λ e. by_lt p 2305
    (λ f. left_out 3 (λ q h. produce_few q store len p buffer now size e h f))
    (λ f.
    let lp = places_long in
    let bs : List ℕ = replicate buffer 0 in
    let lb : length bs ≡ buffer = length-replicate {A = ℕ} buffer 0 in
    stands_for (calls.produce places bs now size) (places_lent, ((subst (λ (n : ℕ). n < 2 ^ 64) (sym lb) t.1.1.0, zero_bytes buffer), t.1.1.1)) (omega arith)
    (λ q. ap₂ (λ (n k : ℕ). run.step (run.produce n (places_in places) k now size) q) (sym e) lb ∙ produce_places q store (places_in places) p buffer now size (enough ∙ sym (le-ltb p 2305 f)))))
    (λ e. left_out 2 (λ q h. produce_other q store len p buffer now size e h))
translate len (run.fill store p buffer now k) t = by_lt k.limit 36
    (λ a. left_out 20 (λ q h. fill_outside q store p buffer now k a))
    (λ a. by_lt 65535 k.limit
    (λ b. left_out 20 (λ q h. fill_above q store p buffer now k a b))
    (λ b. by_lt buffer k.limit
    (λ c. left_out 21 (λ q h. fill_short q store p buffer now k a b c))
    (λ c. by_index store len
    (λ e. by_lt p 2305
    (λ f. left_out 3 (λ q h. fill_few q store p buffer now k a b len c e h f))
    (λ f.
    let lp = places_long in
    let bs : List ℕ = replicate buffer 0 in
    let lb : length bs ≡ buffer = length-replicate {A = ℕ} buffer 0 in
    stands_for (calls.fill places bs now (packet_back k)) (places_lent, ((subst (λ (n : ℕ). n < 2 ^ 64) (sym lb) t.1.1.0, zero_bytes buffer), (t.1.1.1.0, subst demands.PacketTyped (sym (packet_back_lem k)) t.1.1.1.1))) (omega arith)
    (λ q. (λ i. run.step (run.fill (sym e i) (places_in places) (lb i) now (packet_back_lem k i)) q) ∙ fill_places q store (places_in places) p buffer now k (enough ∙ sym (le-ltb p 2305 f)))))
    (λ e. left_out 2 (λ q h. fill_other q store p buffer now k a b len c e h)))))
translate len (run.discard p s k) t = by_lt p 2305
    (λ f. left_out 3 (λ q h. discard_few q p s k f))
    (λ f. let lp = places_long in stands_for (calls.discard places s k) (places_lent, t.1) (omega arith) (λ q. discard_places q (places_in places) p s k (enough ∙ sym (le-ltb p 2305 f))))
translate len (run.close p s) t = by_lt p 2305
    (λ f. left_out 3 (λ q h. close_few q p s f))
    (λ f. let lp = places_long in stands_for (calls.close places s) (places_lent, t.1) (omega arith) (λ q. close_places q (places_in places) p s (enough ∙ sym (le-ltb p 2305 f))))
translate len run.ready_ids t = same len calls.ready_ids run.ready_ids t tt refl
translate len run.commit t = same len calls.commit run.commit t tt refl
translate len run.rollback t = same len calls.rollback run.rollback t tt refl
translate len run.reset t = same len calls.reset run.reset t tt refl
translate len (run.set_threshold p s n) t = by_lt p 2305
    (λ f. left_out 3 (λ q h. threshold_few q p s n f))
    (λ f. let lp = places_long in stands_for (calls.set_threshold places s n) (places_lent, t.1) (omega arith) (λ q. threshold_places q (places_in places) p s n (enough ∙ sym (le-ltb p 2305 f))))
translate len (run.set_priority s p) t = same len (calls.set_priority s p) (run.set_priority s p) t tt refl
translate len (run.set_interleaving b) t = same len (calls.set_interleaving b) (run.set_interleaving b) t tt refl
translate len (run.restore store now image) t = by_index store len
    (λ e. by_lt (length image) (2 ^ 64)
    (λ f. same len (calls.restore now image) (run.restore store now image) (t.1.0, (f, t.1.1)) tt (ap (λ (n : ℕ). run.restore n now image) (sym e)))
    (λ f. stands_for (calls.restore now []) (t.1.0, (omega arith, tt)) tt (λ q. ap (λ (n : ℕ). run.step (run.restore n now []) q) (sym e) ∙ restore_long q store now image t.1.1 f)))
    (λ e. left_out 2 (λ q h. restore_other q store len now image e h))
translate len (run.ask_priority s) t = same len (calls.ask_priority s) (run.ask_priority s) t tt refl
translate len (run.ask_amount s) t = same len (calls.ask_amount s) (run.ask_amount s) t tt refl
translate len (run.ask_threshold s) t = same len (calls.ask_threshold s) (run.ask_threshold s) t tt refl
translate len run.ask_total t = same len calls.ask_total run.ask_total t tt refl
translate len run.ask_empty t = same len calls.ask_empty run.ask_empty t tt refl
translate len run.ask_has_data t = same len calls.ask_has_data run.ask_has_data t tt refl
translate len run.ask_streams_ready t = same len calls.ask_streams_ready run.ask_streams_ready t tt refl
translate len run.ask_ready_count t = same len calls.ask_ready_count run.ask_ready_count t tt refl
translate len run.ask_readiness t = same len calls.ask_readiness run.ask_readiness t tt refl
translate len (run.ask_room r) t = same len (calls.ask_room r) (run.ask_room r) t tt refl
