-- Filling a packet is the model's, refused or not. Assumes nothing.
use mathlib.Core.Path.{◌≡◌, refl, sym, ap, ap₂, ◌∙◌, subst}
use mathlib.Core.Bool.{Bool, true, false}
use mathlib.Core.List.{List, [], ◌∷◌, ◌++◌}
use mathlib.Core.Option.{Option, none, some}
use Prim.Native.Nat.{ℕ, ◌+◌, ◌≤◌, ◌<◌}
use native.Mathlib.Nat.{zero-add}
use native.Mathlib.Omega.{arith}
use borrow.Author.Tests.{lt-ltb, le-ltb, eq-eqb, ne_eqb}
use lib.Dec.{ltb, eqb}
use lib.ListN.{length, drop, length-append}
use Rattle.queue_words.specs.Flags.{pick}
use Rattle.queue_words.specs.Header.{options_at}
use Rattle.queue_model.specs.Types.{Queue, Options, Fragment, Step, refuse}
use Rattle.queue_model.specs.Refusals.{Check, first_refusal, refused_or, checked}
use Rattle.queue_model.specs.Fill as fill
use Rattle.queue_model.specs.Fill.{Filling, common_header, common_header_length, filling, packet_bytes, filled_with, fill_checks}
use Rattle.queue_model.specs.Run as run
use Rattle.queue_model.proofs.Invariant.Events.{potential_fits}
use Rattle.queue_model.proofs.Fill.Sizes.{Past, past_checks}
use Rattle.queue_model.proofs.Fill.Lengths.{chunks_length, length_header}
use Rattle.queue_streams.specs.Events.{event_words, places_in, written}
use Rattle.queue_state.specs.Model.{model}
use Rattle.queue_state.specs.Good.{Good}
use Rattle.queue_state.proofs.Singles.{model_options, model_interleaving}
use Rattle.big_endian.specs.Numbers.{wrote}
use Rattle.big_endian.proofs.Rows.{wrote_none}
use Rattle.packets.specs.Filling as progress
use Rattle.packets.specs.declared.packet.Packet.{Packet}
use Rattle.packets.specs.PacketFilled.{PacketFilled}
use Rattle.packets.specs.PacketFilled as packet
use Rattle.packets.specs.Filling.{packet_of, kind_of, fill_code, FillingWith, reached, fill_on_words, filled_with_words, finished_answer, finished_packet, finished, fill_packet}
use Rattle.packets.proofs.Places.{wrote_before}
use Rattle.linked_packets.specs.Meaning.{Fills, FillMeets, fill_call}
use Rattle.linked_packets.proofs.Calls.{chunks_long, filling_link}
use Rattle.linked_packets.proofs.Numbers.{tells_of}
use Rattle.queue_words.proofs.Finds.{by_lt}

-- ------------------------------------------------------------------ the packet

-- The common header before the chunks that are in their place: the packet, and behind it what was there.
whole_packet : (idata : Bool) (p : Packet) (bs : List ℕ) (f : Fragment) (fs : List Fragment) → common_header_length + chunks_length idata (f ∷ fs) ≤ length bs
    → wrote (wrote bs common_header_length (fill.chunks idata p.tsn (f ∷ fs))) 0 (common_header (packet_of p)) ≡ packet_bytes idata (packet_of p) (f ∷ fs) ++ drop (length (packet_bytes idata (packet_of p) (f ∷ fs))) bs
unfolding packet_bytes
whole_packet idata p bs f fs h =
    let c = chunks_long idata p.tsn (f ∷ fs) in
    wrote_before bs 0 common_header_length (common_header (packet_of p)) (fill.chunks idata p.tsn (f ∷ fs)) (length_header (packet_of p)) (omega (arith, c, h))
    ∙ (unfold wrote in ap (λ (n : ℕ). (common_header (packet_of p) ++ fill.chunks idata p.tsn (f ∷ fs)) ++ drop n bs) (zero-add (length (common_header (packet_of p) ++ fill.chunks idata p.tsn (f ∷ fs)))))

packet_long : (idata : Bool) (p : Packet) (f : Fragment) (fs : List Fragment) → length (packet_bytes idata (packet_of p) (f ∷ fs)) ≡ common_header_length + chunks_length idata (f ∷ fs)
unfolding packet_bytes
packet_long idata p f fs =
    let a = length-append (common_header (packet_of p)) (fill.chunks idata p.tsn (f ∷ fs)) in let b = length_header (packet_of p) in let c = chunks_long idata p.tsn (f ∷ fs) in omega (arith, a, b, c)

-- ------------------------------------------------------------------ past the checks

-- What the code has come to, by the model's filling.
pub record Came (idata : Bool) (st es bs : List ℕ) (p : Packet) (r : Filling) (f : FillingWith) : Type 0 where
  pub good : Good f.words st
  pub next : model f.words st ≡ r.next
  pub events : f.events ≡ written es 0 r.events
  pub packet : f.packet ≡ wrote bs common_header_length (fill.chunks idata p.tsn r.fragments)
  pub progress : f.progress ≡ reached (common_header_length + chunks_length idata r.fragments) (length r.events) (0 + length r.fragments) 0
  pub within : common_header_length + chunks_length idata r.fragments ≤ p.limit
  pub unrefused : r.refusal ≡ none

module _ (idata : Bool) (st es bs : List ℕ) (p : Packet) (q : Queue) (r : Filling) (f : FillingWith) (l : Came idata st es bs p r f) (ei : q.interleaving ≡ idata) (long : p.limit ≤ length bs) where
  -- without a fragment
  fills_none : r.fragments ≡ [] → Fills (filled_with (packet_of p) q r [] none) st es bs (finished p f)
  unfolding filled_with packet_bytes finished_answer finished_packet fill.chunks
  fills_none e =
      let b : f.progress ≡ reached (common_header_length + 0) (length r.events) (0 + 0) 0 = l.progress ∙ ap (λ (fs : List Fragment). reached (common_header_length + chunks_length idata fs) (length r.events) (0 + length fs) 0) e in
      record {
        good = l.good;
        next = l.next;
        answer = ap finished_answer b;
        events = l.events;
        packet = ap (λ (x : progress.Filling). finished_packet p x f.packet) b ∙ l.packet ∙ ap (λ (fs : List Fragment). wrote bs common_header_length (fill.chunks idata p.tsn fs)) e ∙ sym (wrote_none bs common_header_length);
      }

  -- with some
  module _ (y : Fragment) (ys : List Fragment) (e : r.fragments ≡ y ∷ ys) where
    abbrev bytes : List ℕ
    bytes = packet_bytes idata (packet_of p) (y ∷ ys)

    abbrev state : progress.Filling
    state = reached (common_header_length + chunks_length idata (y ∷ ys)) (length r.events) (0 + length (y ∷ ys)) 0

    came : f.progress ≡ state
    came = l.progress ∙ ap (λ (fs : List Fragment). reached (common_header_length + chunks_length idata fs) (length r.events) (0 + length fs) 0) e

    not_none : eqb (0 + length (y ∷ ys)) 0 ≡ false
    not_none = ne_eqb (0 + length (y ∷ ys)) 0 (λ z. omega (arith, z))

    answers : finished_answer f.progress ≡ packet.Filled (length r.events) (length bytes) (length (y ∷ ys))
    unfolding finished_answer
    answers =
        ap finished_answer came ∙ ap (λ (b : Bool). pick b (pick (ltb 0 0) (packet.Refused 0) (packet.Filled (length r.events) 0 0)) (packet.Filled (length r.events) (common_header_length + chunks_length idata (y ∷ ys)) (0 + length (y ∷ ys)))) not_none
        ∙ ap₂ (λ (n m : ℕ). packet.Filled (length r.events) n m) (sym (packet_long idata p y ys)) (zero-add (length (y ∷ ys)))

    holds : finished_packet p f.progress f.packet ≡ bytes ++ drop (length bytes) bs
    unfolding finished_packet
    holds =
        let w : common_header_length + chunks_length idata (y ∷ ys) ≤ length bs = let v = l.within in let u = ap (chunks_length idata) e in omega (arith, v, u, long) in
        ap₂ (λ (x : progress.Filling) (b : List ℕ). finished_packet p x b) came (l.packet ∙ ap (λ (fs : List Fragment). wrote bs common_header_length (fill.chunks idata p.tsn fs)) e)
        ∙ ap (λ (b : Bool). pick b (wrote bs common_header_length (fill.chunks idata p.tsn (y ∷ ys))) (wrote (wrote bs common_header_length (fill.chunks idata p.tsn (y ∷ ys))) 0 (common_header (packet_of p)))) not_none
        ∙ whole_packet idata p bs y ys w

    fills_some : (x : Option ℕ) → Fills (filled_with (packet_of p) q r (y ∷ ys) x) st es bs (finished p f)
    unfolding filled_with
    fills_some x = record {
      good = l.good;
      next = l.next;
      answer = answers ∙ ap (λ (b : Bool). packet.Filled (length r.events) (length (packet_bytes b (packet_of p) (y ∷ ys))) (length (y ∷ ys))) (sym ei);
      events = l.events;
      packet = holds ∙ ap (λ (b : Bool). packet_bytes b (packet_of p) (y ∷ ys) ++ drop (length (packet_bytes b (packet_of p) (y ∷ ys))) bs) (sym ei);
    }

  fills_past : Fills (filled_with (packet_of p) q r r.fragments r.refusal) st es bs (finished p f)
  fills_past = go r.fragments refl r.refusal l.unrefused
    where
      go : (fs : List Fragment) → r.fragments ≡ fs → (x : Option ℕ) → x ≡ none → Fills (filled_with (packet_of p) q r fs x) st es bs (finished p f)
      go [] e x u = subst (λ (z : Option ℕ). Fills (filled_with (packet_of p) q r [] z) st es bs (finished p f)) (sym u) (fills_none e)
      go (y ∷ ys) e x u = fills_some y ys e x

-- ------------------------------------------------------------------ the call

module _ (ws st es bs : List ℕ) (time : ℕ) (p : Packet) (g : Good ws st) where
  abbrev queue : Queue
  queue = model ws st

  abbrev checks : List Check
  checks = fill_checks (length st) (places_in es) (length bs) time p.limit (model ws st)

  abbrev code : ℕ
  code = fill_code ws (length st) (length es) (length bs) time p.limit

  abbrev step : Step
  step = run.step (fill_call st es bs time p) (model ws st)

  refuses : (n : ℕ) → first_refusal checks ≡ some n → step ≡ refuse (model ws st) n
  unfolding run.step fill.fill checked refused_or
  refuses n e = rw e

  goes_on : first_refusal checks ≡ none
      → step ≡ filled_with (packet_of p) (model ws st) (filling (length st) (places_in es) time p.limit (model ws st)) (filling (length st) (places_in es) time p.limit (model ws st)).fragments (filling (length st) (places_in es) time p.limit (model ws st)).refusal
  unfolding run.step fill.fill checked refused_or
  goes_on e = rw e

  told : (n : ℕ) → Fills (refuse (model ws st) n) st es bs (filled_with_words (packet.Refused n) ws es bs)
  unfolding written
  told n = record { good = g; next = refl; answer = refl; events = refl; packet = refl }

  -- a refusal
  refused : (n : ℕ) → 0 < n → first_refusal checks ≡ some n → code ≡ n → Fills step st es bs (fill_packet ws st es bs time p)
  unfolding fill_packet
  refused n h a b =
      let e : fill_packet ws st es bs time p ≡ filled_with_words (packet.Refused n) ws es bs = rw (b, lt-ltb 0 n h) in
      subst (λ (s : Step). Fills s st es bs (fill_packet ws st es bs time p)) (sym (refuses n a)) (subst (Fills (refuse (model ws st) n) st es bs) (sym e) (told n))

  -- no refusal
  came_to : event_words ≤ length es → p.limit ≤ length bs → first_refusal checks ≡ none
      → Came (model ws st).interleaving st es bs p (filling (length st) (places_in es) time p.limit (model ws st))
      (fill_on_words p.limit (kind_of (model ws st).interleaving) st time p.limit (options_at ws).payload_limit ws es bs common_header_length 0 0 p.tsn)
  unfolding filling
  came_to he hb a =
      let past : Past (length st) (places_in es) time p.limit (model ws st) = past_checks (length st) (places_in es) (length bs) time p.limit (model ws st) a in
      let lim = past.limit_low in
      let l = filling_link (model ws st).interleaving st es (places_in es) time p.limit (options_at ws).payload_limit he (λ used n x f z. past.calls_pass (model ws st).interleaving used n x f z)
      p.limit ws bs [] common_header_length 0 p.tsn g past.same_store (ap (λ (o : Options). o.payload_limit) (model_options ws st)) (let w = potential_fits (model ws st) g.well in omega (arith, w)) (omega (arith, lim)) hb in
      let none_written : written es 0 [] ≡ es = unfold written in refl in
      subst (λ (v : List ℕ). Came (model ws st).interleaving st es bs p (filling (length st) (places_in es) time p.limit (model ws st)) (fill_on_words p.limit (kind_of (model ws st).interleaving) st time p.limit (options_at ws).payload_limit ws v bs common_header_length 0 0 p.tsn)) none_written
      (record { good = l.good; next = l.next; events = l.events; packet = l.packet; progress = l.progress; within = l.within; unrefused = l.unrefused })

  accepted : event_words ≤ length es → p.limit ≤ length bs → first_refusal checks ≡ none → code ≡ 0 → Fills step st es bs (fill_packet ws st es bs time p)
  unfolding fill_packet
  accepted he hb a b =
      let i : Bool = (model ws st).interleaving in
      let f : FillingWith = fill_on_words p.limit (kind_of (model ws st).interleaving) st time p.limit (options_at ws).payload_limit ws es bs common_header_length 0 0 p.tsn in
      let e : fill_packet ws st es bs time p ≡ finished p f =
      rw b (ap (λ (x : Bool). finished p (fill_on_words p.limit (kind_of x) st time p.limit (options_at ws).payload_limit ws es bs common_header_length 0 0 p.tsn)) (sym (model_interleaving ws st))) in
      subst (λ (s : Step). Fills s st es bs (fill_packet ws st es bs time p)) (sym (goes_on a)) (subst (Fills _ st es bs) (sym e)
      (fills_past i st es bs p (model ws st) (filling (length st) (places_in es) time p.limit (model ws st)) f (came_to he hb a) refl hb))

  store_same : eqb (length st) (model ws st).options.store_length ≡ true
  store_same = eq-eqb (length st) (model ws st).options.store_length (g.store_is ∙ ap (λ (o : Options). o.store_length) (sym (model_options ws st)))

  same_store : eqb (options_at ws).store_length (length st) ≡ true
  same_store = eq-eqb (options_at ws).store_length (length st) (sym g.store_is)

  pub fill_link : Fills (run.step (fill_call st es bs time p) (model ws st)) st es bs (fill_packet ws st es bs time p)
  unfolding first_refusal fill_code
  fill_link = by_lt p.limit 36
      (λ a. refused 20 (omega arith) (rw (lt-ltb p.limit 36 a)) (rw (lt-ltb p.limit 36 a)))
      (λ a. by_lt 65535 p.limit
      (λ b. refused 20 (omega arith) (rw (le-ltb p.limit 36 a, lt-ltb 65535 p.limit b)) (rw (le-ltb p.limit 36 a, lt-ltb 65535 p.limit b)))
      (λ b. by_lt (length bs) p.limit
      (λ c. refused 21 (omega arith) (rw (le-ltb p.limit 36 a, le-ltb 65535 p.limit b, lt-ltb (length bs) p.limit c)) (rw (le-ltb p.limit 36 a, le-ltb 65535 p.limit b, lt-ltb (length bs) p.limit c)))
      (λ c. by_lt (length es) event_words
      (λ h. refused 3 (omega arith) (rw (le-ltb p.limit 36 a, le-ltb 65535 p.limit b, le-ltb (length bs) p.limit c, store_same, lt-ltb (places_in es) 2305 (omega (arith, h))))
      (rw (le-ltb p.limit 36 a, le-ltb 65535 p.limit b, le-ltb (length bs) p.limit c, same_store, lt-ltb (length es) event_words h)))
      (λ h. by_lt 4611686018427387903 time
      (λ i. refused 4 (omega arith) (rw (le-ltb p.limit 36 a, le-ltb 65535 p.limit b, le-ltb (length bs) p.limit c, store_same, le-ltb (places_in es) 2305 (omega (arith, h)), lt-ltb 4611686018427387903 time i))
      (rw (le-ltb p.limit 36 a, le-ltb 65535 p.limit b, le-ltb (length bs) p.limit c, same_store, le-ltb (length es) event_words h, lt-ltb 4611686018427387903 time i)))
      (λ i. accepted h c (rw (le-ltb p.limit 36 a, le-ltb 65535 p.limit b, le-ltb (length bs) p.limit c, store_same, le-ltb (places_in es) 2305 (omega (arith, h)), le-ltb 4611686018427387903 time i))
      (rw (le-ltb p.limit 36 a, le-ltb 65535 p.limit b, le-ltb (length bs) p.limit c, same_store, le-ltb (length es) event_words h, le-ltb 4611686018427387903 time i)))))))

-- What the contract asks.
pub fill_meets : (ws st es bs : List ℕ) (time : ℕ) (p : Packet) (r : PacketFilled) (ws' es' bs' : List ℕ) → filled_with_words r ws' es' bs' ≡ fill_packet ws st es bs time p → FillMeets ws st es bs time p r ws' es' bs'
fill_meets ws st es bs time p r ws' es' bs' e = record { words = e; model = fills; tells = λ g. tells_of (fills g) }
  where
    fills : Good ws st → Fills (run.step (fill_call st es bs time p) (model ws st)) st es bs (filled_with_words r ws' es' bs')
    fills g = subst (Fills (run.step (fill_call st es bs time p) (model ws st)) st es bs) (sym e) (fill_link ws st es bs time p g)
