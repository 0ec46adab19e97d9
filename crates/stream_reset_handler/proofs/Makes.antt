-- Making a request, over plain values: a callee's result is a variable, what it ensures a hypothesis. Assumes nothing.
use mathlib.Core.Path.{◌≡◌, refl, sym, ap, ap₂, ◌∙◌, subst}
use mathlib.Core.Bool.{Bool, true, false}
use mathlib.Core.List.{List, [], ◌∷◌}
use mathlib.Core.Option.{Option, none, some}
use Prim.Native.Nat.{ℕ, ◌≤◌, ◌<◌}
use native.Mathlib.Omega.{arith}
use borrow.Author.Tests.{le-ltb, lt-ltb, eq-eqb, ne_eqb, ltb-true, ltb-false}
use lib.Dec.{eqb, ltb, eqb→eq}
use lib.ListN.{length, take}
use lib.Seq.{take_at}
use Rattle.queue_model.specs.Types.{Queue}
use Rattle.queue_model.specs.Types as queue
use Rattle.queue_model.specs.Calls
use Rattle.queue_model.specs.Run as run
use Rattle.std.specs.Prelude.{if◌then◌else◌}
use Rattle.queue_model.specs.Reset.{paused_ids}
use Rattle.queue_model.proofs.Tests.{holds}
use Rattle.send_queue.specs.Number.{Number}
use Rattle.send_queue.specs.Number as number
use Rattle.send_queue.specs.ReadyStreams.{ReadyStreams}
use Rattle.send_queue.specs.Queue as state
use Rattle.send_queue.specs.Queue.{Good}
use Rattle.big_endian.specs.Numbers.{wrote}
use Rattle.send_queue.specs.Restarts.{ready_of}
use Rattle.send_queue.specs.Restarts.{CountMeets, ReadyMeets}
use Rattle.send_queue.proofs.Restarts.{count_same, ready_same}
use Rattle.send_queue.specs.Queue.{number_of}
use Rattle.reset_model.specs.Wire.{request_size, request_bytes}
use Rattle.reset_model.specs.Handler as model
use Rattle.reset_wire.proofs.Puts.{request_long}
use Rattle.stream_reset_handler.specs.Underway.{Underway}
use Rattle.std.specs.Prelude.{Some, None}
use Rattle.stream_reset_handler.specs.declared.handler.StreamResetHandler.{StreamResetHandler}
use Rattle.stream_reset_handler.specs.RequestAnswer.{Written, NoneReady, Refused}
use Rattle.stream_reset_handler.specs.MadeRequest.{MadeRequest}
use Rattle.stream_reset_handler.specs.Handler.{handler_of, underway_of}
use Rattle.stream_reset_handler.specs.Making.{MadeWith, made_with, told, next_handler, message_in, Ready, IsReady, written_for, request_for, request_in, make_request, Makes, MakeMeets}

-- ---- the model's step, by what decides it

none_under : (u : Option model.Request) → None ≡ underway_of u → u ≡ none
none_under none e = refl
none_under (some u) e = let z : ◌≡◌ {A = ℕ} 0 1 = cc in absurd (omega arith)

some_under : (n : ℕ) (u : Option model.Request) → Some n ≡ underway_of u → (room response tsn : ℕ) (r : model.Handler) (q : Queue) → model.request_in u room response tsn r q ≡ model.effect (model.refused 25) r q
unfolding model.request_in
some_under n none e room response tsn r q = let z : ◌≡◌ {A = ℕ} 0 1 = cc in absurd (omega arith)
some_under n (some u) e room response tsn r q = refl

ready_answer : (q : Queue) → (run.step run.ready_ids q).outcome.answer ≡ queue.ids (paused_ids q.streams)
unfolding run.step Calls.ready_ids
ready_answer q = refl

count_told : (q : Queue) → number_of (run.step run.ask_ready_count q).outcome.answer ≡ number.Value (length (paused_ids q.streams))
unfolding run.step Calls.ready_count
count_told q = refl

module _ (room response tsn : ℕ) (r : model.Handler) (q : Queue) where
  effect_25 : (n : ℕ) → Some n ≡ underway_of r.underway → model.make_request room response tsn r q ≡ model.effect (model.refused 25) r q
  unfolding model.make_request
  effect_25 n e = some_under n r.underway e room response tsn r q

  effect_for : r.underway ≡ none → (ids : List ℕ) → paused_ids q.streams ≡ ids → model.make_request room response tsn r q ≡ model.request_for room response tsn ids r q
  unfolding model.make_request model.request_in
  effect_for e ids f = ap (λ (u : Option model.Request). model.request_in u room response tsn r q) e ∙ ap (λ (l : List ℕ). model.request_for room response tsn l r q) f

  for_none : (ids : List ℕ) → length ids ≡ 0 → model.request_for room response tsn ids r q ≡ model.effect model.none_ready r q
  unfolding model.request_for
  for_none [] e = refl
  for_none (i ∷ is) e = absurd (omega (arith, e))

  for_26 : (ids : List ℕ) → (length ids ≡ 0 → ⊥) → room < request_size (length ids) → model.request_for room response tsn ids r q ≡ model.effect (model.refused 26) r q
  unfolding model.request_for
  for_26 [] n h = absurd (n refl)
  for_26 (i ∷ is) n h = ap (λ (b : Bool). if b then model.effect (model.refused 26) r q else model.made response tsn (i ∷ is) r q) (lt-ltb room (request_size (length (i ∷ is))) h)

  for_made : (ids : List ℕ) → (length ids ≡ 0 → ⊥) → request_size (length ids) ≤ room → model.request_for room response tsn ids r q ≡ model.made response tsn ids r q
  unfolding model.request_for
  for_made [] n h = absurd (n refl)
  for_made (i ∷ is) n h = ap (λ (b : Bool). if b then model.effect (model.refused 26) r q else model.made response tsn (i ∷ is) r q) (le-ltb room (request_size (length (i ∷ is))) h)

-- ---- the returns

module _ (ws : List ℕ) (h : StreamResetHandler) (out : List ℕ) (response tsn : ℕ) where
  under_is : (r : model.Handler) → h ≡ handler_of r → h.underway ≡ underway_of r.underway
  under_is r e = ap (λ (x : StreamResetHandler). x.underway) e

  pub made_25 : (n : ℕ) → h.underway ≡ Some n → MakeMeets ws h out response tsn (told (Refused 25) h) ws out
  made_25 n e = record {
    words = λ q i. unfold make_request in rw e;
    model = λ st g r eh. subst (λ (x : model.Effect). Makes x st out (told (Refused 25) h) ws out)
        (sym (effect_25 (length out) response tsn r (state.model ws st) n (sym e ∙ under_is r eh)))
        (record { good = g; next = refl; answer = refl; handler = eh; output = refl });
  }

  module _ (e : h.underway ≡ None) where
    none_is : (r : model.Handler) → h ≡ handler_of r → r.underway ≡ none
    none_is r eh = none_under r.underway (sym e ∙ under_is r eh)

    pub made_refused : (n : ℕ) → CountMeets ws (number.Refused n) → MakeMeets ws h out response tsn (told (Refused n) h) ws out
    made_refused n c = record {
      words = λ q i. (let k = count_same ws q.count (number.Refused n) i.counts c in unfold make_request in rw (e, k));
      model = λ st g r eh. let f = c.model st g ∙ count_told (state.model ws st) in let z : ◌≡◌ {A = ℕ} 0 1 = cc in absurd (omega arith);
    }

    module _ (count : ℕ) (c : CountMeets ws (number.Value count)) where
      count_is : (st : List ℕ) → Good ws st → length (paused_ids (state.model ws st).streams) ≡ count
      count_is st g = let f = c.model st g ∙ count_told (state.model ws st) in cc

      pub made_none : count ≡ 0 → MakeMeets ws h out response tsn (told NoneReady h) ws out
      made_none z = record {
        words = λ q i. (let k = count_same ws q.count (number.Value count) i.counts c in unfold make_request in rw (e, k, eq-eqb count 0 z));
        model = λ st g r eh. subst (λ (x : model.Effect). Makes x st out (told NoneReady h) ws out)
            (sym (effect_for (length out) response tsn r (state.model ws st) (none_is r eh) (paused_ids (state.model ws st).streams) refl
            ∙ for_none (length out) response tsn r (state.model ws st) (paused_ids (state.model ws st).streams) (count_is st g ∙ z)))
            (record { good = g; next = refl; answer = refl; handler = eh; output = refl });
      }

      module _ (n : count ≡ 0 → ⊥) where
        made_26 : length out < request_size count → MakeMeets ws h out response tsn (told (Refused 26) h) ws out
        made_26 l = record {
          words = λ q i. (let k = count_same ws q.count (number.Value count) i.counts c in unfold make_request in rw (e, k, ne_eqb count 0 n, lt-ltb (length out) (request_size count) l));
          model = λ st g r eh. subst (λ (x : model.Effect). Makes x st out (told (Refused 26) h) ws out)
              (sym (effect_for (length out) response tsn r (state.model ws st) (none_is r eh) (paused_ids (state.model ws st).streams) refl
              ∙ for_26 (length out) response tsn r (state.model ws st) (paused_ids (state.model ws st).streams) (λ z. n (sym (count_is st g) ∙ z)) (subst (λ (k : ℕ). length out < request_size k) (sym (count_is st g)) l)))
              (record { good = g; next = refl; answer = refl; handler = eh; output = refl });
        }

        module _ (l : request_size count ≤ length out) (rs : ReadyStreams) (ws' : List ℕ) (m : ReadyMeets ws rs ws') where
          module _ (out' : List ℕ) (eo : out' ≡ message_in out h response tsn (take count rs.ids)) where
            abbrev made_as : MadeRequest
            made_as = told (Written (request_size count)) (next_handler h)

            words_are : (q : Ready) → IsReady ws q → made_with made_as ws' out' ≡ make_request q ws h out response tsn
            unfolding make_request
            words_are q i =
                let k = count_same ws q.count (number.Value count) i.counts c in
                let s = ready_same ws q.taken rs q.next ws' i.takes m in
                rw (e, k, ne_eqb count 0 n, le-ltb (length out) (request_size count) l, eo, s.answers, s.words)

            makes_written : (st : List ℕ) → Good ws st → (r : model.Handler) → h ≡ handler_of r → Makes (model.made response tsn (paused_ids (state.model ws st).streams) r (state.model ws st)) st out made_as ws' out'
            unfolding model.made
            makes_written st g r eh =
                let y = m.model st g in
                let ids : List ℕ = paused_ids (state.model ws st).streams in
                let hn : h.next_number ≡ r.next_number = ap (λ (x : StreamResetHandler). x.next_number) eh in
                let taken : take count rs.ids ≡ ids = ap (λ (x : ReadyStreams). take count x.ids) (y.answer ∙ ap ready_of (ready_answer (state.model ws st))) ∙ take_at ids _ count (count_is st g) in
                record {
                  good = y.good;
                  next = y.next;
                  answer = ap Written (ap request_size (sym (count_is st g)) ∙ sym (request_long r.next_number response tsn ids));
                  handler = ap next_handler eh;
                  output = eo ∙ ap₂ (λ (a : ℕ) (k : List ℕ). wrote out 0 (request_bytes a response tsn k)) hn taken;
                }

            made_written : MakeMeets ws h out response tsn made_as ws' out'
            made_written = record {
              words = words_are;
              model = λ st g r eh. subst (λ (x : model.Effect). Makes x st out made_as ws' out')
                  (sym (effect_for (length out) response tsn r (state.model ws st) (none_is r eh) (paused_ids (state.model ws st).streams) refl
                  ∙ for_made (length out) response tsn r (state.model ws st) (paused_ids (state.model ws st).streams) (λ z. n (sym (count_is st g) ∙ z)) (subst (λ (k : ℕ). request_size k ≤ length out) (sym (count_is st g)) l)))
                  (makes_written st g r eh);
            }

-- ---- as the code has it: the size, and the message and the handler by one function

pub few : (ws : List ℕ) (count : ℕ) → CountMeets ws (number.Value count) → count ≤ 256
few ws count c = c.few count refl

module _ (ws : List ℕ) (out : List ℕ) (count : ℕ) (c : CountMeets ws (number.Value count)) where
  -- what is asked for before the message is written
  pub may_write : (size : ℕ) → size ≡ request_size count → size ≤ length out → (rs : ReadyStreams) (ws' : List ℕ) → ReadyMeets ws rs ws' → (count ≤ 256) × (count ≤ length rs.ids) × (request_size count ≤ length out)
  may_write size es l rs ws' m = let f = few ws count c in let p = m.places in (f, omega arith, subst (λ (k : ℕ). k ≤ length out) es l)

  module _ (h : StreamResetHandler) (response tsn : ℕ) (e : h.underway ≡ None) (n : count ≡ 0 → ⊥) (size : ℕ) (es : size ≡ request_size count) where
    pub made_short : length out < size → MakeMeets ws h out response tsn (told (Refused 26) h) ws out
    made_short l = made_26 ws h out response tsn e count c n (subst (λ (k : ℕ). length out < k) es l)

    pub made_next : size ≤ length out → (rs : ReadyStreams) (ws' : List ℕ) → ReadyMeets ws rs ws' → (next : StreamResetHandler) (out' : List ℕ)
        → (next ≡ next_handler h) × (out' ≡ message_in out h response tsn (take count rs.ids)) → MakeMeets ws h out response tsn (told (Written size) next) ws' out'
    made_next l rs ws' m next out' f =
        subst (λ (k : ℕ). MakeMeets ws h out response tsn (told (Written k) next) ws' out') (sym es)
        (subst (λ (x : StreamResetHandler). MakeMeets ws h out response tsn (told (Written (request_size count)) x) ws' out') (sym f.0)
        (made_written ws h out response tsn e count c n (subst (λ (k : ℕ). k ≤ length out) es l) rs ws' m out' f.1))

-- ---- the definition itself, for lists of calls

module _ (ws : List ℕ) (h : StreamResetHandler) (out : List ℕ) (response tsn : ℕ) (q : Ready) (i : IsReady ws q) where
  abbrev MadeAs : MadeWith → Type 0
  MadeAs x = MakeMeets ws h out response tsn x.made x.words x.output

  module _ (eu : h.underway ≡ None) where
    meets_value : (n : ℕ) → CountMeets ws (number.Value n) → MadeAs (request_for (number.Value n) q ws h out response tsn)
    meets_value n c = go (eqb n 0) (ltb (length out) (request_size n)) refl refl
      where
        go : (b d : Bool) → eqb n 0 ≡ b → ltb (length out) (request_size n) ≡ d
            → MadeAs (if b then made_with (told NoneReady h) ws out else if d then made_with (told (Refused 26) h) ws out else written_for n q h out response tsn)
        go true d e f = made_none ws h out response tsn eu n c (eqb→eq n 0 (holds (eqb n 0) e))
        go false true e f = made_26 ws h out response tsn eu n c (λ z. let x = eq-eqb n 0 z in let y : ◌≡◌ {A = ℕ} 0 1 = cc in omega arith) (ltb-true (length out) (request_size n) f)
        go false false e f =
            made_written ws h out response tsn eu n c (λ z. let x = eq-eqb n 0 z in let y : ◌≡◌ {A = ℕ} 0 1 = cc in omega arith) (ltb-false (length out) (request_size n) f)
            q.taken q.next i.takes _ refl

    meets_count : (c : Number) → CountMeets ws c → MadeAs (request_for c q ws h out response tsn)
    meets_count (number.Value n) m = meets_value n m
    meets_count (number.Refused n) m = made_refused ws h out response tsn eu n m

  pub make_meets : MadeAs (make_request q ws h out response tsn)
  unfolding make_request
  make_meets = by h.underway refl
    where
      by : (u : Underway) → h.underway ≡ u → MadeAs (request_in u q ws h out response tsn)
      by (Some n) e = made_25 ws h out response tsn n e
      by None e = meets_count e q.count i.counts
