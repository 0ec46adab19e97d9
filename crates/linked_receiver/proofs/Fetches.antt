-- Fetching is the model's step: nothing ready, a buffer that is too short, a message handed out. Assumes nothing.
use mathlib.Core.Path.{◌≡◌, refl, sym, ap, ap₂, ◌∙◌, subst}
use mathlib.Core.Bool.{Bool, true}
use mathlib.Core.List.{List, [], ◌∷◌, map, map-map}
use Prim.Native.Nat.{ℕ, ◌+◌, ◌-◌, ◌≤◌, ◌<◌}
use native.Mathlib.Omega.{arith}
use lib.Dec.{ltb}
use lib.ListN.{length, take, drop}
use lib.Seq.{drop_at}
use borrow.Author.Tests.{eq-eqb, ne_eqb, le-leb, lt-leb, lt-ltb, le-ltb}
use Rattle.queue_words.specs.Flags.{pick}
use Rattle.queue_model.specs.Table.{sum_by}
use Rattle.queue_model.specs.Refusals.{first_refusal}
use Rattle.payload_store.specs.Putting.{written}
use Rattle.payload_store.proofs.Puts.{written_part}
use Rattle.receiver_model.specs.Lists.{count, join}
use Rattle.receiver_model.specs.Types.{Chunk, Assembled, Receiver, Message, Step, reply, refused, none_ready}
use Rattle.receiver_model.specs.Types as model
use Rattle.receiver_model.specs.Receive.{refused_or}
use Rattle.receiver_model.specs.Fetch.{as_message, with_ready, fetch_from}
use Rattle.receiver_model.specs.Fetch as model_fetch
use Rattle.receiver_words.specs.Tables.{Header, word_at}
use Rattle.receiver_words.specs.Fragments.{fragment_at}
use Rattle.receiver_words.specs.Ages.{Lined}
use Rattle.receiver_messages.specs.Keys.{interleaved_of}
use Rattle.receiver_messages.specs.Readiness.{leave_ready}
use Rattle.receiver_store.specs.Words.{size_of, used_of}
use Rattle.receiver_fragments.specs.declared.freeing.Measure.{Measure}
use Rattle.receiver_fragments.specs.Fetched as answer
use Rattle.receiver_fragments.specs.Freeing.{measure, measured, HandedOut, hand_out}
use Rattle.receiver_fragments.specs.Fetching.{Outcome, fetched, delivery, take_out, size_by, fetch_first, fetch}
use Rattle.linked_receiver.specs.Good.{Ghost, GoodReceiver, chunk_in, message_in, stands}
use Rattle.linked_receiver.specs.Promise.{Represents}
use Rattle.linked_receiver.specs.Fetches.{answer_of, filled, Fetches}
use Rattle.linked_receiver.proofs.Frees.{held_rows}
use Rattle.linked_receiver.proofs.HandsOut.{payloads, payloads_length, measure_law}
use Rattle.linked_receiver.proofs.Taken.{ready_as, taken_holds, its_held, its_few, its_walk, its_sum, hands, rows_left, good_left, stands_left, bytes_out}
use Rattle.queue_words.proofs.Finds.{by_lt}

-- ------------------------------------------------------------------ the model's step

module _ (store buffer : ℕ) (r : Receiver) where
  fetch_wrong : (store ≡ r.store_length → ⊥) → model_fetch.fetch store buffer r ≡ reply (refused 2) r
  unfolding model_fetch.fetch first_refusal refused_or
  fetch_wrong n = rw (ne_eqb store r.store_length n)

  fetch_right : store ≡ r.store_length → model_fetch.fetch store buffer r ≡ fetch_from buffer r.ready r
  unfolding model_fetch.fetch first_refusal refused_or
  fetch_right e = rw (eq-eqb store r.store_length e)

  from_none : fetch_from buffer [] r ≡ reply none_ready r
  unfolding fetch_from
  from_none = refl

  module _ (a : Assembled) (more : List Assembled) where
    from_short : buffer < length (as_message a).payload → fetch_from buffer (a ∷ more) r ≡ reply (refused 10) r
    unfolding fetch_from first_refusal refused_or
    from_short l = rw (lt-ltb _ _ l)

    from_long : length (as_message a).payload ≤ buffer → fetch_from buffer (a ∷ more) r ≡ reply (model.fetched (as_message a)) (with_ready more r)
    unfolding fetch_from first_refusal refused_or
    from_long l = rw (le-ltb _ _ l)

-- the payload of a message of rows
payload_is : (tail : ℕ → List ℕ) (ws st : List ℕ) (h : ℕ) → (as_message (message_in tail ws st h)).payload ≡ payloads ws st (h ∷ tail h)
unfolding as_message
payload_is tail ws st h = ap join (map-map (λ (c : Chunk). c.bytes) (chunk_in ws st) (h ∷ tail h))

-- ------------------------------------------------------------------ the call on words

module _ (ws st out : List ℕ) where
  call_wrong : (length st ≡ word_at Header ws 0 1 → ⊥) → fetch ws st out ≡ fetched (answer.Refused 2) ws out
  unfolding fetch
  call_wrong n = rw (ne_eqb (length st) (word_at Header ws 0 1) n)

  call_none : length st ≡ word_at Header ws 0 1 → 4096 ≤ word_at Header ws 0 10 → fetch ws st out ≡ fetched answer.NoneReady ws out
  unfolding fetch
  call_none e l = rw (eq-eqb (length st) (word_at Header ws 0 1) e, le-leb _ _ l)

  call_first : (h : ℕ) → length st ≡ word_at Header ws 0 1 → word_at Header ws 0 10 ≡ h → h < 4096 → fetch ws st out ≡ fetch_first ws st out h
  unfolding fetch
  call_first h e q l = rw (eq-eqb (length st) (word_at Header ws 0 1) e, q, lt-leb _ _ l)

  module _ (h n : ℕ) (m : measured 4096 ws (interleaved_of ws) h (length st) (used_of ws) ≡ measure true (used_of ws - n)) (s : n ≤ used_of ws) where
    first_by : (v : Measure) (k : ℕ) → v.ok ≡ true → used_of ws - v.left ≡ k
        → pick v.ok (pick (ltb (length out) (size_by ws v)) (fetched (answer.Refused 10) ws out) (take_out ws st out h (size_by ws v))) (fetched (answer.Refused 16) ws out)
        ≡ pick (ltb (length out) k) (fetched (answer.Refused 10) ws out) (take_out ws st out h k)
    first_by v k e q = rw (e, q)

    first_is : fetch_first ws st out h ≡ pick (ltb (length out) n) (fetched (answer.Refused 10) ws out) (take_out ws st out h n)
    unfolding fetch_first
    first_is =
        ap (λ (v : Measure). pick v.ok (pick (ltb (length out) (size_by ws v)) (fetched (answer.Refused 10) ws out) (take_out ws st out h (size_by ws v))) (fetched (answer.Refused 16) ws out)) m
        ∙ first_by (measure true (used_of ws - n)) n refl (let z : used_of ws - (used_of ws - n) ≡ n = omega arith in z)

    first_short : length out < n → fetch_first ws st out h ≡ fetched (answer.Refused 10) ws out
    first_short l = first_is ∙ ap (λ (t : Bool). pick t (fetched (answer.Refused 10) ws out) (take_out ws st out h n)) (lt-ltb _ _ l)

    first_long : n ≤ length out → fetch_first ws st out h ≡ take_out ws st out h n
    first_long l = first_is ∙ ap (λ (t : Bool). pick t (fetched (answer.Refused 10) ws out) (take_out ws st out h n)) (le-ltb _ _ l)

-- a step that changes neither words nor buffer
unchanged : (g : Ghost) (ws st out : List ℕ) (s : Step) → GoodReceiver g ws st → model_fetch.fetch (length st) (length out) (stands g ws st) ≡ s → s.next ≡ stands g ws st → (o : Outcome) → o.words ≡ ws → o.buffer ≡ out
    → answer_of o.answer o.buffer ≡ s.answer → Fetches (stands g ws st) st out o
unchanged g ws st out s d e n o w b a = record {
  represents = record {
    rows = g;
    stands = record { good = subst (λ (v : List ℕ). GoodReceiver g v st) (sym w) d; is = ap (λ (v : List ℕ). stands g v st) w ∙ sym n ∙ ap (λ (t : Step). t.next) (sym e) };
  };
  answered = a ∙ ap (λ (t : Step). t.answer) (sym e);
  beyond = ap (drop (filled o.answer)) b;
}

-- ------------------------------------------------------------------ a message that is ready

module _ (g : Ghost) (h : ℕ) (more : List ℕ) (ws st out : List ℕ) (d : GoodReceiver (ready_as (h ∷ more) g) ws st) where
  abbrev ghost : Ghost
  ghost = ready_as (h ∷ more) g

  abbrev r : Receiver
  r = stands ghost ws st

  abbrev ms : List ℕ
  ms = h ∷ g.tail h

  abbrev size : ℕ
  size = sum_by (size_of ws) ms

  abbrev first : Assembled
  first = message_in g.tail ws st h

  abbrev others : List Assembled
  others = map (message_in g.tail ws st) more

  within : (x : ℕ) → 0 < count x ms → 0 < count x g.held
  within x c = let a = its_held g h more ws st d x in omega arith

  rows_of : (x : ℕ) → 0 < count x g.held → x < 4096
  rows_of = held_rows ws st (interleaved_of ws) g.held g.free (taken_holds g h more ws st d)

  long : length (as_message first).payload ≡ size
  long = ap length (payload_is g.tail ws st h) ∙ payloads_length ws st g.held ms d.laid within

  measured_is : measured 4096 ws (interleaved_of ws) h (length st) (used_of ws) ≡ measure true (used_of ws - size)
  measured_is = measure_law 4096 ws st (interleaved_of ws) g.held h (g.tail h) (used_of ws) d.laid rows_of (its_walk g h more ws st d) within (its_few g h more ws st d) (its_sum g h more ws st d)

  called : fetch ws st out ≡ fetch_first ws st out h
  called = call_first ws st out h (sym d.store_is) d.lined.0.0 d.lined.0.1

  model_called : model_fetch.fetch (length st) (length out) r ≡ fetch_from (length out) (first ∷ others) r
  model_called = fetch_right (length st) (length out) r (sym d.store_is)

  short : length out < size → Fetches r st out (fetch ws st out)
  short l =
      subst (Fetches r st out) (sym (called ∙ first_short ws st out h size measured_is (its_sum g h more ws st d) l))
      (unchanged ghost ws st out (reply (refused 10) r) d (model_called ∙ from_short (length st) (length out) r first others (let n = long in omega arith)) refl (fetched (answer.Refused 10) ws out) refl refl refl)

  module _ (l : size ≤ length out) where
    abbrev handed : HandedOut
    handed = hand_out 4096 (leave_ready ws h) st out (interleaved_of ws) h 0

    abbrev bytes : List ℕ
    bytes = payloads ws st ms

    bytes_long : length bytes ≡ size
    bytes_long = payloads_length ws st g.held ms d.laid within

    buffer_is : handed.buffer ≡ written out 0 bytes
    buffer_is = (hands g h more ws st d out l).buffer ∙ ap (written out 0) (bytes_out g h more ws st d out l)

    start : take size handed.buffer ≡ bytes
    start = ap₂ (λ (n : ℕ) (v : List ℕ). take n v) (sym bytes_long) buffer_is ∙ written_part out 0 bytes (let n = bytes_long in omega arith)

    rest : drop size handed.buffer ≡ drop size out
    rest =
        ap (drop size) buffer_is
        ∙ drop_at bytes (drop (0 + length bytes) out) size bytes_long
        ∙ ap (λ (n : ℕ). drop n out) (let n = bytes_long in let z : 0 + length bytes ≡ size = omega arith in z)

    model_took : model_fetch.fetch (length st) (length out) r ≡ reply (model.fetched (as_message first)) (with_ready others r)
    model_took = model_called ∙ from_long (length st) (length out) r first others (let n = long in omega arith)

    message_is : answer_of (answer.Message (delivery ws h size)) handed.buffer ≡ model.fetched (as_message first)
    unfolding delivery as_message
    message_is = ap {B = model.Answer} model.fetched (ap parts (start ∙ whole))
      where
        parts : List ℕ → Message
        parts bs = record { stream = (fragment_at ws h).stream.0; unordered = (fragment_at ws h).unordered; ppid = (fragment_at ws h).ppid; payload = bs }

        whole : bytes ≡ (as_message first).payload
        whole = sym (payload_is g.tail ws st h)

    took : Fetches r st out (take_out ws st out h size)
    unfolding take_out delivery
    took = record {
      represents = record {
        rows = rows_left g h more ws st d out l;
        stands = record { good = good_left g h more ws st d out l; is = stands_left g h more ws st d out l ∙ ap (λ (t : Step). t.next) (sym model_took) };
      };
      answered = message_is ∙ ap (λ (t : Step). t.answer) (sym model_took);
      beyond = rest;
    }

    long_enough : Fetches r st out (fetch ws st out)
    long_enough = subst (Fetches r st out) (sym (called ∙ first_long ws st out h size measured_is (its_sum g h more ws st d) l)) took

  one_ready : Fetches r st out (fetch ws st out)
  one_ready = by_lt (length out) size short long_enough

-- ------------------------------------------------------------------ the call

-- THE THEOREM of fetching: on good words it is the model's step, and they are good again
pub fetch_law : (g : Ghost) (ws st out : List ℕ) → GoodReceiver g ws st → Fetches (stands g ws st) st out (fetch ws st out)
fetch_law g ws st out d = go g.ready refl
  where
    go : (rs : List ℕ) → rs ≡ g.ready → Fetches (stands g ws st) st out (fetch ws st out)
    go [] e =
        let lined : Lined ws 10 [] = subst (λ (xs : List ℕ). Lined ws 10 xs) (sym e) d.lined in
        let r = stands g ws st in
        let none_is : fetch_from (length out) r.ready r ≡ reply none_ready r =
        ap (λ (xs : List ℕ). fetch_from (length out) (map (message_in g.tail ws st) xs) r) (sym e) ∙ from_none (length st) (length out) r in
        subst (Fetches r st out) (sym (call_none ws st out (sym d.store_is) (let z = lined.0 in omega arith)))
        (unchanged g ws st out (reply none_ready r) d (fetch_right (length st) (length out) r (sym d.store_is) ∙ none_is) refl (fetched answer.NoneReady ws out) refl refl refl)
    go (h ∷ more) e =
        let same : ready_as (h ∷ more) g ≡ g = ap (λ (xs : List ℕ). ready_as xs g) e in
        subst (λ (v : Ghost). Fetches (stands v ws st) st out (fetch ws st out)) same
        (one_ready g h more ws st out (subst (λ (v : Ghost). GoodReceiver v ws st) (sym same) d))

-- and of the receiver that words and store are
pub fetch_represents : (ws st out : List ℕ) (r : Receiver) → Represents ws st r → Fetches r st out (fetch ws st out)
fetch_represents ws st out r p = subst (λ (v : Receiver). Fetches v st out (fetch ws st out)) p.stands.is (fetch_law p.rows ws st out p.stands.good)

-- a store of another length is refused with 2, as by the model, and changes nothing
pub fetch_other : (ws st st' out : List ℕ) (r : Receiver) → Represents ws st r → (length st' ≡ length st → ⊥)
    → (fetch ws st' out ≡ fetched (answer.Refused 2) ws out) × (model_fetch.fetch (length st') (length out) r ≡ reply (refused 2) r)
fetch_other ws st st' out r p n = (
  call_wrong ws st' out (λ e. n (e ∙ p.stands.good.store_is)),
  fetch_wrong (length st') (length out) r (λ e. n (e ∙ sym (ap (λ (v : Receiver). v.store_length) p.stands.is) ∙ p.stands.good.store_is)),
)
