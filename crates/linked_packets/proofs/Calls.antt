-- The calls of a filling are the model's, turn by turn. Assumes nothing.
use mathlib.Core.Path.{◌≡◌, refl, sym, ap, ap₂, ◌∙◌, subst}
use mathlib.Core.Bool.{Bool}
use mathlib.Core.List.{List, [], ◌∷◌, ◌++◌, append-nil, append_assoc}
use mathlib.Core.Option.{Option, none}
use Prim.Native.Nat.{ℕ, zero, suc, ◌+◌, ◌-◌, ◌≤◌, min}
use native.Mathlib.Omega.{arith}
use borrow.Author.Tests.{ne_eqb}
use lib.Dec.{eqb}
use lib.ListN.{length, take, drop, length-append, length-drop}
use lib.Seq.{length-take-le}
use Rattle.types.specs.Wrap.{wrap_suc}
use Rattle.queue_words.specs.Flags.{pick}
use Rattle.queue_model.specs.Types.{Queue, Options, Event, Fragment, Answer, fragment, nothing_waits, Step}
use Rattle.queue_model.specs.Answers.{fragment_in, refusal_in}
use Rattle.queue_model.specs.Produce.{produce, produce_checks}
use Rattle.queue_model.specs.Chunks.{padded, chunk_length}
use Rattle.queue_model.specs.Fill as fill
use Rattle.queue_model.specs.Fill.{Filling, no_calls, rounded_down, size_asked, last_call, one_more, and_on, asked, fill_on, chunk_fields, fragment_chunk}
use Rattle.queue_model.proofs.Checks.{Passed}
use Rattle.queue_model.proofs.Invariant.Events.{potential, produce_spends}
use Rattle.queue_model.proofs.Invariant.Sends.{fine_produce}
use Rattle.queue_model.proofs.Fill.Refusals.{after_events}
use Rattle.queue_model.proofs.Fill.Sizes.{size_within}
use Rattle.queue_model.proofs.Fill.Answers.{Gives, gives, waits_none, produce_gives}
use Rattle.queue_model.proofs.Fill.Lengths.{chunks_length, length_chunk, chunk_within}
use Rattle.queue_streams.specs.Events.{event_words, written}
use Rattle.queue_sending.specs.Data.{ProducedWith}
use Rattle.queue_sending.specs.Produce.{produced_after}
use Rattle.queue_sending.specs.Produced.{Produced}
use Rattle.queue_sending.specs.Produced as produced
use Rattle.queue_state.specs.Model.{model}
use Rattle.queue_state.specs.Good.{Good}
use Rattle.big_endian.specs.Numbers.{wrote}
use Rattle.big_endian.proofs.Halves.{wrote_length, wrote_twice}
use Rattle.big_endian.proofs.Rows.{wrote_none}
use Rattle.chunks.specs.Layout.{header_size}
use Rattle.chunks.specs.declared.chunk.ChunkKind.{ChunkKind}
use Rattle.packets.specs.Filling.{kind_of, chunk_around, packet_after, around, one_filled, FillingWith, filling_with, reached, after_one, and_on_words, size_asked_words, fill_on_words}
use Rattle.packets.proofs.Places.{wrote_same}
use Rattle.linked_sending.specs.Meaning.{Sends, data_of, produced_of, buffer_of}
use Rattle.linked_sending.proofs.After.{after_sends}
use Rattle.linked_packets.proofs.Chunk.{header_is, placed_chunk}

-- what the code's loop leaves, once its state is known
reached_same : {a b c d i j k l : ℕ} → a ≡ i → b ≡ j → c ≡ k → d ≡ l → reached a b c d ≡ reached i j k l
reached_same e f g h = λ x. reached (e x) (f x) (g x) (h x)

-- chunks take their lengths
pub chunks_long : (idata : Bool) (tsn : ℕ) (fs : List Fragment) → length (fill.chunks idata tsn fs) ≡ chunks_length idata fs
unfolding fill.chunks
chunks_long idata tsn [] = refl
chunks_long idata tsn (f ∷ fs) =
    let a = length-append (fragment_chunk idata tsn f) (fill.chunks idata (wrap_suc 32 tsn) fs) in let b = length_chunk idata (chunk_fields tsn f) f.bytes in let c = chunks_long idata (wrap_suc 32 tsn) fs in omega (arith, a, b, c)

module _ (idata : Bool) (st es : List ℕ) (places time limit most : ℕ) (he : event_words ≤ length es) where
  abbrev kind : ChunkKind
  kind = kind_of idata

  -- From the events vs and `c` chunks on: the code has come where the model's calls come.
  pub record Linked (vs : List Event) (bs : List ℕ) (used c tsn : ℕ) (r : Filling) (f : FillingWith) : Type 0 where
    pub good : Good f.words st
    pub next : model f.words st ≡ r.next
    pub events : f.events ≡ written es 0 (vs ++ r.events)
    pub packet : f.packet ≡ wrote bs used (fill.chunks idata tsn r.fragments)
    pub progress : f.progress ≡ reached (used + chunks_length idata r.fragments) (length (vs ++ r.events)) (c + length r.fragments) 0
    pub within : used + chunks_length idata r.fragments ≤ limit
    pub unrefused : r.refusal ≡ none

  -- No call, or a last one without a fragment.
  ended : (ws bs : List ℕ) (vs ds : List Event) (used c tsn : ℕ) (r : Filling) → Good ws st → model ws st ≡ r.next → ds ≡ vs ++ r.events → r.fragments ≡ [] → used ≤ limit → r.refusal ≡ none
      → Linked vs bs used c tsn r (filling_with (reached used (length ds) c 0) ws (written es 0 ds) bs)
  unfolding fill.chunks
  ended ws bs vs ds used c tsn r g n e f l u =
      let z : chunks_length idata r.fragments ≡ 0 = ap (chunks_length idata) f in
      let y : length r.fragments ≡ 0 = ap length f in
      record {
        good = g;
        next = n;
        events = ap (written es 0) e;
        packet = wrote_none bs used ∙ sym (ap (λ (fs : List Fragment). wrote bs used (fill.chunks idata tsn fs)) f);
        progress = reached_same (omega (arith, z)) (ap length e) (omega (arith, y)) refl;
        within = omega (arith, z, l);
        unrefused = u;
      }

  -- The size that the code asks for is document 02's.
  size_same : (used : ℕ) (q : Queue) → q.options.payload_limit ≡ most → size_asked_words kind limit most used ≡ size_asked idata limit used q
  unfolding size_asked
  size_same used q e = ap₂ (λ (h m : ℕ). min (rounded_down (limit - (used + h))) m) (header_is idata) (sym e)

  -- One call.
  module _ (past : (used n : ℕ) (x : Queue) → x.options.store_length ≡ length st → size_asked idata limit used x ≡ suc n → Passed (produce_checks (length st) places (suc n) time (suc n) x)) where
    module _ (ws bs : List ℕ) (vs : List Event) (used c tsn n : ℕ) (g : Good ws st) (store_same : (model ws st).options.store_length ≡ length st)
        (h : length vs + potential (model ws st) ≤ 2305) (room : used ≤ limit) (long : limit ≤ length bs) (e : size_asked idata limit used (model ws st) ≡ suc n) where
      abbrev q : Queue
      q = model ws st

      abbrev s : Step
      s = produce (length st) places (suc n) time (suc n) (model ws st)

      abbrev start : ℕ
      start = used + header_size (kind_of idata)

      abbrev part : List ℕ
      part = take (suc n) (drop (used + header_size (kind_of idata)) bs)

      abbrev p : ProducedWith
      p = produced_after ws st (written es 0 vs) (take (suc n) (drop (used + header_size (kind_of idata)) bs)) time (suc n) (length vs)

      fits : used + header_size (kind_of idata) + suc n ≤ length bs
      fits = let a = size_within idata limit used n (model ws st) e in let b = header_is idata in omega (arith, a, b, long)

      part_long : length part ≡ suc n
      part_long = length-take-le (suc n) (drop (used + header_size (kind_of idata)) bs) (let a = length-drop (used + header_size (kind_of idata)) bs in let b = fits in omega (arith, a, b))

      passed : Passed (produce_checks (length st) places (suc n) time (suc n) (model ws st))
      passed = past used n (model ws st) store_same e

      sends : Sends (after_events vs (produce (length st) places (suc n) time (suc n) (model ws st))) st es part p
      sends = subst (λ (m : ℕ). Passed (produce_checks (length st) places m time (suc n) (model ws st)) → Sends (after_events vs (produce (length st) places m time (suc n) (model ws st))) st es part p) part_long
          (after_sends ws st es part places time (suc n) vs g he (let a = part_long in omega (arith, a)) h) passed

      answered : Gives (suc n) s.outcome.answer
      answered = produce_gives (length st) places (suc n) time (suc n) (model ws st) (omega arith) g.well passed

      spent : length (vs ++ s.outcome.events) + potential s.next ≤ 2305
      spent = let a = produce_spends (length st) places (suc n) time (suc n) (model ws st) g.well in let b = length-append vs s.outcome.events in omega (arith, a, b, h)

      same_options : s.next.options ≡ (model ws st).options
      same_options = (fine_produce (length st) places (suc n) time (suc n) (model ws st) g.well).same_options

      module _ (again : List ℕ → List ℕ → List ℕ → ℕ → ℕ → ℕ → ℕ → FillingWith) where
        abbrev after : FillingWith
        after = and_on_words again (kind_of idata) used (length vs) c tsn (around (kind_of idata) tsn bs used p)

        -- Nothing waits.
        last_turn : s.outcome.answer ≡ nothing_waits → Linked vs bs used c tsn (last_call (suc n) s) after
        last_turn a =
            let x : p.answer ≡ produced.Nothing (length (vs ++ s.outcome.events)) = sends.answer ∙ ap (λ (y : Answer). produced_of y (length (vs ++ s.outcome.events))) a in
            let b : p.buffer ≡ part = sends.buffer ∙ ap (λ (y : Answer). buffer_of y part) a in
            let w : wrote bs start p.buffer ≡ bs = ap (wrote bs start) b ∙ wrote_same bs start (suc n) fits in
            let to : after ≡ filling_with (reached used (length (vs ++ s.outcome.events)) c 0) p.words (written es 0 (vs ++ s.outcome.events)) bs =
            ap (λ (y : Produced). after_one again (kind_of idata) used (length vs) c tsn p.words p.events (packet_after (kind_of idata) tsn (wrote bs start p.buffer) used y) y) x
            ∙ ap₂ (λ (v b : List ℕ). filling_with (reached used (length (vs ++ s.outcome.events)) c 0) p.words v b) sends.events w in
            subst (Linked vs bs used c tsn (last_call (suc n) s)) (sym to) (ended p.words bs vs (vs ++ s.outcome.events) used c tsn (last_call (suc n) s) sends.good sends.next refl refl room (ap refusal_in a))

        -- A fragment, and the calls after it.
        abbrev chunk : Fragment → List ℕ
        chunk f = fragment_chunk idata tsn f

        abbrev further : Fragment → ℕ
        further f = used + chunk_length idata (length f.bytes)

        more_turn : (f : Fragment) → s.outcome.answer ≡ fragment f → length f.bytes ≤ suc n → (r : Filling)
            → Linked (vs ++ s.outcome.events) (wrote bs used (chunk f)) (further f) (c + 1) (wrap_suc 32 tsn) r
            (again p.words (written es 0 (vs ++ s.outcome.events)) (wrote bs used (chunk f)) (further f) (length (vs ++ s.outcome.events)) (c + 1) (wrap_suc 32 tsn))
            → Linked vs bs used c tsn (one_more (suc n) s f r) after
        unfolding fill.chunks
        more_turn f a l r i =
            let ds : List Event = vs ++ s.outcome.events in
            let x : p.answer ≡ produced.Fragment (length ds) (data_of f) = sends.answer ∙ ap (λ (y : Answer). produced_of y (length ds)) a in
            let b : p.buffer ≡ f.bytes ++ drop (length f.bytes) part = sends.buffer ∙ ap (λ (y : Answer). buffer_of y part) a in
            let inside : used + chunk_length idata (length f.bytes) ≤ limit = chunk_within idata limit used n (model ws st) f e l in
            let w : chunk_around (kind_of idata) tsn (data_of f).«data» (wrote bs start p.buffer) used ≡ wrote bs used (chunk f) =
            ap (λ (y : List ℕ). chunk_around (kind_of idata) tsn (data_of f).«data» (wrote bs start y) used) b
            ∙ placed_chunk idata tsn f bs used (suc n) l (let z = size_within idata limit used n (model ws st) e in omega (arith, z, long)) (omega (arith, inside, long)) in
            let u : used + padded (header_size (kind_of idata) + length f.bytes) ≡ further f = ap (λ (m : ℕ). used + padded (m + length f.bytes)) (header_is idata) in
            let to : after ≡ again p.words (written es 0 ds) (wrote bs used (chunk f)) (further f) (length ds) (c + 1) (wrap_suc 32 tsn) =
            ap (λ (y : Produced). after_one again (kind_of idata) used (length vs) c tsn p.words p.events (packet_after (kind_of idata) tsn (wrote bs start p.buffer) used y) y) x
            ∙ (λ j. again p.words (sends.events j) (w j) (u j) (length ds) (c + 1) (wrap_suc 32 tsn)) in
            let lc : length (chunk f) ≡ chunk_length idata (length f.bytes) = length_chunk idata (chunk_fields tsn f) f.bytes in
            let lr : length (fill.chunks idata (wrap_suc 32 tsn) r.fragments) ≡ chunks_length idata r.fragments = chunks_long idata (wrap_suc 32 tsn) r.fragments in
            let v = i.within in
            let both : wrote (wrote bs used (chunk f)) (further f) (fill.chunks idata (wrap_suc 32 tsn) r.fragments) ≡ wrote bs used (chunk f ++ fill.chunks idata (wrap_suc 32 tsn) r.fragments) =
            ap (λ (m : ℕ). wrote (wrote bs used (chunk f)) (used + m) (fill.chunks idata (wrap_suc 32 tsn) r.fragments)) (sym lc)
            ∙ wrote_twice bs used (chunk f) (fill.chunks idata (wrap_suc 32 tsn) r.fragments) (omega (arith, lc, lr, v, long)) in
            let o : (vs ++ s.outcome.events) ++ r.events ≡ vs ++ (s.outcome.events ++ r.events) = append_assoc vs s.outcome.events r.events in
            subst (Linked vs bs used c tsn (one_more (suc n) s f r)) (sym to) (record {
              good = i.good;
              next = i.next;
              events = i.events ∙ ap (written es 0) o;
              packet = i.packet ∙ both;
              progress = i.progress ∙ reached_same (omega arith) (ap length o) (omega arith) refl;
              within = omega (arith, v);
              unrefused = i.unrefused;
            })

  -- ---- all of them

  pub filling_link : ((used n : ℕ) (x : Queue) → x.options.store_length ≡ length st → size_asked idata limit used x ≡ suc n → Passed (produce_checks (length st) places (suc n) time (suc n) x))
      → (turns : ℕ) (ws bs : List ℕ) (vs : List Event) (used c tsn : ℕ) → Good ws st → (model ws st).options.store_length ≡ length st → (model ws st).options.payload_limit ≡ most
      → length vs + potential (model ws st) ≤ 2305 → used ≤ limit → limit ≤ length bs
      → Linked vs bs used c tsn (fill_on idata (length st) places time limit turns used (model ws st)) (fill_on_words turns (kind_of idata) st time limit most ws (written es 0 vs) bs used (length vs) c tsn)
  unfolding fill_on asked and_on fill_on_words no_calls one_filled
  filling_link past zero ws bs vs used c tsn g ss pl h room long = ended ws bs vs vs used c tsn (no_calls (model ws st)) g refl (sym (append-nil vs)) refl room refl
  filling_link past (suc turns) ws bs vs used c tsn g ss pl h room long =
      subst (λ (m : ℕ). Linked vs bs used c tsn (asked (length st) places time (model ws st) more (size_asked idata limit used (model ws st))) (turn m)) (sym (size_same used (model ws st) pl))
      (go (λ l b v u d t g ss pl h room long. filling_link past turns l b v u d t g ss pl h room long) (size_asked idata limit used (model ws st)) refl)
    where
      more : Fragment → Queue → Filling
      more f r = fill_on idata (length st) places time limit turns (used + chunk_length idata (length f.bytes)) r

      again : List ℕ → List ℕ → List ℕ → ℕ → ℕ → ℕ → ℕ → FillingWith
      again l v b u j d t = fill_on_words turns (kind_of idata) st time limit most l v b u j d t

      -- a turn that asks for m bytes
      turn : ℕ → FillingWith
      turn m =
          pick (eqb m 0) (filling_with (reached used (length vs) c 0) ws (written es 0 vs) bs)
          (and_on_words (λ (l v b : List ℕ) (u j d t : ℕ). fill_on_words turns (kind_of idata) st time limit most l v b u j d t) (kind_of idata) used (length vs) c tsn (one_filled (kind_of idata) st time ws (written es 0 vs) bs used (length vs) tsn m))

      Later : Type 0
      Later = (l b : List ℕ) (v : List Event) (u d t : ℕ) → Good l st → (model l st).options.store_length ≡ length st → (model l st).options.payload_limit ≡ most
          → length v + potential (model l st) ≤ 2305 → u ≤ limit → limit ≤ length b
          → Linked v b u d t (fill_on idata (length st) places time limit turns u (model l st)) (fill_on_words turns (kind_of idata) st time limit most l (written es 0 v) b u (length v) d t)

      by : Later → (n : ℕ) (e : size_asked idata limit used (model ws st) ≡ suc n) {a : Answer} → Gives (suc n) a → (produce (length st) places (suc n) time (suc n) (model ws st)).outcome.answer ≡ a
          → Linked vs bs used c tsn (and_on (suc n) (produce (length st) places (suc n) time (suc n) (model ws st)) more (fragment_in (produce (length st) places (suc n) time (suc n) (model ws st)).outcome.answer))
          (after past ws bs vs used c tsn n g ss h room long e (λ (l v b : List ℕ) (u j d t : ℕ). fill_on_words turns (kind_of idata) st time limit most l v b u j d t))
      by ih n e waits_none a =
          subst (λ (x : Option Fragment). Linked vs bs used c tsn (and_on (suc n) (produce (length st) places (suc n) time (suc n) (model ws st)) more x) (after past ws bs vs used c tsn n g ss h room long e (λ (l v b : List ℕ) (u j d t : ℕ). fill_on_words turns (kind_of idata) st time limit most l v b u j d t)))
          (sym (ap fragment_in a)) (last_turn past ws bs vs used c tsn n g ss h room long e (λ (l v b : List ℕ) (u j d t : ℕ). fill_on_words turns (kind_of idata) st time limit most l v b u j d t) a)
      by ih n e (gives f l m) a =
          let k = sends past ws bs vs used c tsn n g ss h room long e in
          let x : Step = produce (length st) places (suc n) time (suc n) (model ws st) in
          let inside = chunk_within idata limit used n (model ws st) f e m in
          let lc : length (fragment_chunk idata tsn f) ≡ chunk_length idata (length f.bytes) = length_chunk idata (chunk_fields tsn f) f.bytes in
          let lb : length (wrote bs used (fragment_chunk idata tsn f)) ≡ length bs = wrote_length bs used (fragment_chunk idata tsn f) (omega (arith, lc, inside, long)) in
          let os : (model (p past ws bs vs used c tsn n g ss h room long e).words st).options ≡ (model ws st).options = ap (λ (r : Queue). r.options) k.next ∙ same_options past ws bs vs used c tsn n g ss h room long e in
          let pays = spent past ws bs vs used c tsn n g ss h room long e in
          let i = ih (p past ws bs vs used c tsn n g ss h room long e).words (wrote bs used (fragment_chunk idata tsn f)) (vs ++ x.outcome.events) (used + chunk_length idata (length f.bytes)) (c + 1) (wrap_suc 32 tsn) k.good
          (ap (λ (o : Options). o.store_length) os ∙ ss) (ap (λ (o : Options). o.payload_limit) os ∙ pl)
          (subst (λ (r : Queue). length (vs ++ x.outcome.events) + potential r ≤ 2305) (sym k.next) pays) inside (omega (arith, lb, long)) in
          let j = subst (λ (r : Queue). Linked (vs ++ x.outcome.events) (wrote bs used (fragment_chunk idata tsn f)) (used + chunk_length idata (length f.bytes)) (c + 1) (wrap_suc 32 tsn) (fill_on idata (length st) places time limit turns (used + chunk_length idata (length f.bytes)) r)
          (fill_on_words turns (kind_of idata) st time limit most (p past ws bs vs used c tsn n g ss h room long e).words (written es 0 (vs ++ x.outcome.events)) (wrote bs used (fragment_chunk idata tsn f)) (used + chunk_length idata (length f.bytes)) (length (vs ++ x.outcome.events)) (c + 1) (wrap_suc 32 tsn))) k.next i in
          subst (λ (y : Option Fragment). Linked vs bs used c tsn (and_on (suc n) x more y) (after past ws bs vs used c tsn n g ss h room long e (λ (l v b : List ℕ) (u j d t : ℕ). fill_on_words turns (kind_of idata) st time limit most l v b u j d t)))
          (sym (ap fragment_in a)) (more_turn past ws bs vs used c tsn n g ss h room long e (λ (l v b : List ℕ) (u j d t : ℕ). fill_on_words turns (kind_of idata) st time limit most l v b u j d t) f a m (more f x.next) j)

      go : Later → (m : ℕ) → size_asked idata limit used (model ws st) ≡ m → Linked vs bs used c tsn (asked (length st) places time (model ws st) more m) (turn m)
      go ih zero e = ended ws bs vs vs used c tsn (no_calls (model ws st)) g refl (sym (append-nil vs)) refl room refl
      go ih (suc n) e =
          subst (λ (b : Bool). Linked vs bs used c tsn (asked (length st) places time (model ws st) more (suc n)) (pick b (filling_with (reached used (length vs) c 0) ws (written es 0 vs) bs)
          (and_on_words (λ (l v b : List ℕ) (u j d t : ℕ). fill_on_words turns (kind_of idata) st time limit most l v b u j d t) (kind_of idata) used (length vs) c tsn (one_filled (kind_of idata) st time ws (written es 0 vs) bs used (length vs) tsn (suc n)))))
          (sym (ne_eqb (suc n) 0 (λ z. omega (arith, z)))) (by ih n e (answered past ws bs vs used c tsn n g ss h room long e) refl)
