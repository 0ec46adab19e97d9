-- The ways out of the questions, over plain values: a callee's result is a variable, what it ensures a hypothesis. Assumes nothing.
use mathlib.Core.Path.{◌≡◌, sym, ap, ◌∙◌}
use mathlib.Core.Bool.{true, false}
use mathlib.Core.List.{List}
use Prim.Native.Nat.{ℕ, suc, ◌+◌, ◌-◌, ◌≤◌, ◌<◌}
use native.Mathlib.Nat.{sub-zero}
use native.Mathlib.Numerals.{add-one}
use native.Mathlib.Omega.{arith}
use borrow.Author.Tests.{lt-ltb, le-ltb}
use Rattle.queue_model.specs.Questions.{free_store}
use Rattle.queue_words.specs.Find.{find_stream_words}
use Rattle.queue_words.specs.Header.{options_at, totals_at}
use Rattle.queue_words.specs.Known.{known_at}
use Rattle.queue_words.specs.Streams.{is_paused_words, stream_at_words}
use Rattle.queue_words.specs.declared.header.Options.{Options}
use Rattle.queue_words.specs.declared.header.Totals.{Totals}
use Rattle.queue_words.specs.declared.known.Found.{Found}
use Rattle.queue_words.specs.declared.known.Found.TheVariants.{At, Gap, Broken}
use Rattle.queue_words.specs.declared.known.Known.{Known}
use Rattle.queue_words.specs.declared.streams.OutgoingStream.{OutgoingStream}
use Rattle.stream_scheduler.specs.Words.{peek_words}
use Rattle.stream_scheduler.specs.declared.Peeked.{Peeked}
use Rattle.stream_scheduler.specs.declared.Peeked.TheVariants as peeked
use Rattle.queue_streams.specs.Known.{new_stream_words}
use Rattle.queue_questions.specs.Questions.{stream_or_new, priority_of_words, amount_of_words, threshold_of, data_of, ready_among, ready_of, readiness_of, room_of}
use Rattle.queue_streams.specs.Flag as flag
use Rattle.queue_streams.specs.Number as number
use Rattle.queue_questions.specs.Looked.{Looked}
use Rattle.queue_questions.specs.Looked as looked
use Rattle.queue_streams.proofs.Exits.{count_of}

-- ------------------------------------------------------------------ the questions

module _ (ws : List ℕ) (id : ℕ) (f : Found) (ef : f ≡ find_stream_words ws id) where
  pub stream_known : (p q : ℕ) (s : OutgoingStream) → f ≡ At p q → s ≡ stream_at_words ws q → looked.Stream s ≡ stream_or_new ws id
  unfolding stream_or_new
  stream_known p q s e es = rw (← ef, e, es)

  pub stream_new : (p : ℕ) (o : Options) (s : OutgoingStream) → f ≡ Gap p → o ≡ options_at ws → s ≡ new_stream_words o → looked.Stream s ≡ stream_or_new ws id
  unfolding stream_or_new
  stream_new p o s e eo es = rw (← ef, e, es, eo)

  pub stream_broken : f ≡ Broken → looked.Broken ≡ stream_or_new ws id
  unfolding stream_or_new
  stream_broken e = rw (← ef, e)

module _ (ws : List ℕ) (id : ℕ) (r : Looked) (er : r ≡ stream_or_new ws id) where
  module _ (s : OutgoingStream) (e : r ≡ looked.Stream s) where
    pub priority_told : number.Value s.priority ≡ priority_of_words ws id
    unfolding priority_of_words
    priority_told = rw (← er, e)

    pub amount_told : number.Value s.buffered_amount ≡ amount_of_words ws id
    unfolding amount_of_words
    amount_told = rw (← er, e)

    pub threshold_told : number.Value s.low_threshold ≡ threshold_of ws id
    unfolding threshold_of
    threshold_told = rw (← er, e)

  module _ (e : r ≡ looked.Broken) where
    pub priority_broken : number.Refused 16 ≡ priority_of_words ws id
    unfolding priority_of_words
    priority_broken = rw (← er, e)

    pub amount_broken : number.Refused 16 ≡ amount_of_words ws id
    unfolding amount_of_words
    amount_broken = rw (← er, e)

    pub threshold_broken : number.Refused 16 ≡ threshold_of ws id
    unfolding threshold_of
    threshold_broken = rw (← er, e)

module _ (ws : List ℕ) (p : Peeked) (ep : p ≡ peek_words ws) where
  pub data_waits : (i : ℕ) → p ≡ peeked.At i → flag.Value true ≡ data_of ws
  unfolding data_of
  data_waits i e = rw (← ep, e)

  pub data_none : p ≡ peeked.Nothing → flag.Value false ≡ data_of ws
  unfolding data_of
  data_none e = rw (← ep, e)

  pub data_broken : p ≡ peeked.Broken → flag.Refused 16 ≡ data_of ws
  unfolding data_of
  data_broken e = rw (← ep, e)

module _ (ws : List ℕ) (n : ℕ) where
  pub ready_start : ready_among ws 0 n ≡ ready_among ws 0 (n - 0)
  ready_start = rw sub-zero

  module _ (i : ℕ) (inv : ready_among ws 0 n ≡ ready_among ws i (n - i)) where
    module _ (h : i < n) (k : Known) (ek : k ≡ known_at ws i) where
      pub ready_broken : 255 < k.place → flag.Refused 16 ≡ ready_among ws 0 n
      unfolding ready_among
      ready_broken g =
          let s : n - i ≡ suc (n - (i + 1)) = omega arith in
          sym (inv ∙ rw (s, ← ek, lt-ltb _ _ g))

      module _ (g : k.place ≤ 255) (x : OutgoingStream) (ex : x ≡ stream_at_words ws k.place) where
        pub ready_here : is_paused_words x.pause_state ≡ true → flag.Value true ≡ ready_among ws 0 n
        unfolding ready_among
        ready_here e =
            let s : n - i ≡ suc (n - (i + 1)) = omega arith in
            sym (inv ∙ rw (s, ← ek, le-ltb _ _ g, ← ex, e))

        pub ready_next : is_paused_words x.pause_state ≡ false → ready_among ws 0 n ≡ ready_among ws (i + 1) (n - (i + 1))
        unfolding ready_among
        ready_next e =
            let s : n - i ≡ suc (n - (i + 1)) = omega arith in
            inv ∙ rw (s, ← ek, le-ltb _ _ g, ← ex, e, add-one)

    pub ready_end : n ≤ i → flag.Value false ≡ ready_among ws 0 n
    unfolding ready_among
    ready_end g =
        let s : n - i ≡ 0 = omega arith in
        sym (inv ∙ rw s)

module _ (ws : List ℕ) (t : Totals) (et : t ≡ totals_at ws) where
  pub ready_too_many : 256 < t.known → flag.Refused 16 ≡ ready_of ws
  unfolding ready_of
  ready_too_many h = rw (count_of ws t et, lt-ltb _ _ h)

  pub ready_told : t.known ≤ 256 → ready_among ws 0 t.known ≡ ready_of ws
  unfolding ready_of
  ready_told h = rw (count_of ws t et, le-ltb _ _ h)

module _ (ws : List ℕ) (o : Options) (eo : o ≡ options_at ws) where
  pub readiness_on : o.handover_with_data ≡ true → 0 ≡ readiness_of ws
  unfolding readiness_of
  readiness_on h = rw (← eo, h)

  module _ (h : o.handover_with_data ≡ false) (t : Totals) (et : t ≡ totals_at ws) where
    pub readiness_data : 0 < t.total → 2 ≡ readiness_of ws
    unfolding readiness_of
    readiness_data g = rw (← eo, h, ← et, lt-ltb _ _ g)

    pub readiness_none : t.total ≤ 0 → 0 ≡ readiness_of ws
    unfolding readiness_of
    readiness_none g = rw (← eo, h, ← et, le-ltb _ _ g)

-- ------------------------------------------------------------------ the free bytes

module _ (ws : List ℕ) (o : Options) (eo : o ≡ options_at ws) (t : Totals) (et : t ≡ totals_at ws) where
  pub none_free : o.store_length < t.used → 0 ≡ room_of free_store ws
  unfolding room_of
  none_free h = sym (monus o.store_length t.used h) ∙ ap (λ (x : Options). x.store_length - t.used) eo ∙ ap (λ (x : Totals). (options_at ws).store_length - x.used) et
    where
      monus : (a b : ℕ) → a < b → a - b ≡ 0
      monus a b l = omega arith

  pub some_free : o.store_length - t.used ≡ room_of free_store ws
  unfolding room_of
  some_free = ap (λ (x : Options). x.store_length - t.used) eo ∙ ap (λ (x : Totals). (options_at ws).store_length - x.used) et
