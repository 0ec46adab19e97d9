-- The refusals of adding a message, on the words and in the model. Assumes nothing.
use mathlib.Core.Path.{◌≡◌, refl, sym, ap, ◌∙◌}
use mathlib.Core.Bool.{Bool, true, false, not, ◌||◌}
use mathlib.Core.List.{List, [], ◌∷◌}
use mathlib.Core.Option.{none, some, get_or}
use Prim.Native.Nat.{ℕ, ◌-◌, ◌^◌, ◌≤◌, ◌<◌}
use borrow.Author.Tests.{lt-ltb, le-ltb, eq-eqb}
use lib.Dec.{ltb, eqb}
use lib.ListN.{length}
use Rattle.queue_words.specs.Flags.{pick}
use Rattle.queue_words.specs.Header.{options_at, totals_at}
use Rattle.queue_words.specs.declared.streams.OutgoingStream.{OutgoingStream}
use Rattle.queue_model.specs.Types.{Queue, Step, done, reply, refuse}
use Rattle.queue_model.specs.Types as plain
use Rattle.queue_model.specs.Streams.{stream_at, too_many, free_bytes, waiting, occupied}
use Rattle.queue_model.specs.Refusals.{Check, ◌when◌, first_refusal, refused_or, checked, overflows}
use Rattle.queue_model.specs.Add as plain_add
use Rattle.queue_model.specs.Run as run
use Rattle.queue_model.specs.Calls as calls
use Rattle.queue_model.specs.Demands.{MessageTyped}
use Rattle.queue_model.proofs.Invariant.Fine.{Fine}
use Rattle.queue_model.proofs.Invariant.Sixteen.{fine_step}
use Rattle.payload_store.specs.Words.{used_of}
use Rattle.queue_streams.specs.Call.{Accepted, Refused}
use Rattle.queue_state.specs.Model.{model}
use Rattle.queue_state.specs.Good.{Shape, Good}
use Rattle.queue_state.specs.Promise.{call_of, Does}
use Rattle.queue_state.proofs.Singles.{model_options, model_streams}
use Rattle.queue_state.proofs.Sums.{waiting_is, occupied_is}
use Rattle.queue_messages.specs.Message.{nanoseconds}
use Rattle.queue_messages.specs.Add.{arguments_code, full_code, broken_code, message_code, lost_code}
use Rattle.std.specs.Prelude.{Some, None}
use Rattle.queue_messages.specs.Message.{Lifetime}
use Rattle.queue_messages.specs.declared.message.Message.{Message}
use Rattle.linked_adding.specs.Message.{message_of_words, lifetime_of}
use Rattle.linked_adding.proofs.Creates.{zero_below}

-- ---- the words' numbers

abbrev pub arguments_by : Bool → Bool → Bool → Bool → ℕ
arguments_by a b c d = pick a 4 (pick b 4 (pick c 5 (pick d 5 0)))

-- the tests on the arguments, for a store of the right length
pub arguments_are : (ws : List ℕ) (len time : ℕ) (l : Lifetime) (n : ℕ) → len ≡ (options_at ws).store_length
    → arguments_code ws len time l n ≡ arguments_by (ltb 4611686018427387903 time) (ltb 4611686018427387903 (nanoseconds l)) (ltb n 1) (ltb 262144 n)
unfolding arguments_code
arguments_are ws len time l n e = rw (eq-eqb (options_at ws).store_length len (sym e), zero_below n)

module _ (ws : List ℕ) (len : ℕ) (s : OutgoingStream) (n : ℕ) where
  pub message_seven : 1023 < (totals_at ws).waiting → message_code ws len s n ≡ 7
  unfolding message_code full_code
  message_seven h = rw (lt-ltb 1023 (totals_at ws).waiting h)

  pub message_eight : (totals_at ws).waiting ≤ 1023 → len - (totals_at ws).used < n → message_code ws len s n ≡ 8
  unfolding message_code full_code
  message_eight h k = rw (le-ltb 1023 (totals_at ws).waiting h, lt-ltb (len - (totals_at ws).used) n k)

  pub message_none : (totals_at ws).waiting ≤ 1023 → n ≤ len - (totals_at ws).used → broken_code ws len s n ≡ 0 → message_code ws len s n ≡ 0
  unfolding message_code full_code
  message_none h k b = rw (le-ltb 1023 (totals_at ws).waiting h, le-ltb (len - (totals_at ws).used) n k) b

pub lost_six : (ws : List ℕ) (len n : ℕ) → lost_code ws len n 6 ≡ 6
unfolding lost_code
lost_six ws len n = refl

-- ---- the model's list, by the words' tests

abbrev pub list_by : Bool → Bool → Bool → Bool → Bool → Bool → Bool → Bool → List Check
list_by a b c d e f g h = (2 when false) ∷ (4 when a) ∷ (4 when b) ∷ (5 when (c || d)) ∷ (6 when e) ∷ (7 when f) ∷ (8 when g) ∷ (16 when h) ∷ []

-- the first of the list
pub first_by : (a b c d e f g h : Bool) → first_refusal (list_by a b c d e f g h)
    ≡ pick (ltb 0 (arguments_by a b c d)) (some (arguments_by a b c d)) (pick e (some 6) (pick f (some 7) (pick g (some 8) (pick h (some 16) none))))
unfolding first_refusal
first_by true b c d e f g h = refl
first_by false true c d e f g h = refl
first_by false false true d e f g h = refl
first_by false false false true e f g h = refl
first_by false false false false true f g h = refl
first_by false false false false false true g h = refl
first_by false false false false false false true h = refl
first_by false false false false false false false true = refl
first_by false false false false false false false false = refl

lifetime_is : (l : Lifetime) → get_or (lifetime_of l) 0 ≡ nanoseconds l
lifetime_is None = refl
lifetime_is (Some n) = refl

module _ (ws st : List ℕ) (g : Good ws st) (time : ℕ) (m : Message) (bs : List ℕ) where
  abbrev q : Queue
  q = model ws st

  abbrev given : plain.Message
  given = message_of_words m bs

  abbrev call : run.Call
  call = run.add (length st) time (message_of_words m bs)

  right_store : not (eqb (length st) q.options.store_length) ≡ false
  right_store =
      let e : length st ≡ q.options.store_length = g.store_is ∙ sym (ap (λ (o : plain.Options). o.store_length) (model_options ws st)) in
      rw (eq-eqb (length st) q.options.store_length e)

  pub waiting_model : waiting q.streams ≡ (totals_at ws).waiting
  waiting_model = ap waiting (model_streams ws st) ∙ waiting_is ws st g.shape

  pub occupied_model : occupied q.streams ≡ used_of ws
  occupied_model = ap occupied (model_streams ws st) ∙ occupied_is ws st g.shape

  pub store_model : q.options.store_length ≡ length st
  store_model = ap (λ (o : plain.Options). o.store_length) (model_options ws st) ∙ sym g.store_is

  free_model : free_bytes q ≡ length st - used_of ws
  unfolding free_bytes
  free_model = rw (store_model, occupied_model)

  checks_are : plain_add.add_checks (length st) time given q
      ≡ list_by (ltb 4611686018427387903 time) (ltb 4611686018427387903 (nanoseconds m.lifetime)) (ltb (length bs) 1) (ltb 262144 (length bs))
      (too_many q m.stream_id.0) (ltb 1023 (totals_at ws).waiting) (ltb (length st - used_of ws) (length bs)) (overflows q (stream_at q m.stream_id.0) (length bs))
  checks_are = rw (right_store, lifetime_is m.lifetime, waiting_model, free_model)

  pub refusal_is : first_refusal (plain_add.add_checks (length st) time given q)
      ≡ pick (ltb 0 (arguments_code ws (length st) time m.lifetime (length bs))) (some (arguments_code ws (length st) time m.lifetime (length bs)))
      (pick (too_many q m.stream_id.0) (some 6) (pick (ltb 1023 (totals_at ws).waiting) (some 7) (pick (ltb (length st - used_of ws) (length bs)) (some 8) (pick (overflows q (stream_at q m.stream_id.0) (length bs)) (some 16) none))))
  refusal_is =
      ap first_refusal checks_are
      ∙ rw (arguments_are ws (length st) time m.lifetime (length bs) g.store_is)
      (first_by (ltb 4611686018427387903 time) (ltb 4611686018427387903 (nanoseconds m.lifetime)) (ltb (length bs) 1) (ltb 262144 (length bs))
      (too_many q m.stream_id.0) (ltb 1023 (totals_at ws).waiting) (ltb (length st - used_of ws) (length bs)) (overflows q (stream_at q m.stream_id.0) (length bs)))

  -- ---- the model's step, refused and accepted

  step_is : run.step call q ≡ refused_or (first_refusal (plain_add.add_checks (length st) time given q)) q (reply done [] (plain_add.added time given q))
  unfolding run.step calls.add checked
  step_is = refl

  step_refused : (k : ℕ) → first_refusal (plain_add.add_checks (length st) time given q) ≡ some k → run.step call q ≡ refuse q k
  unfolding refused_or
  step_refused k e = step_is ∙ rw e

  step_done : first_refusal (plain_add.add_checks (length st) time given q) ≡ none → run.step call q ≡ reply done [] (plain_add.added time given q)
  unfolding refused_or
  step_done e = step_is ∙ rw e

  pub does_refused : (k : ℕ) → first_refusal (plain_add.add_checks (length st) time given q) ≡ some k → Does call ws st (Refused k) ws st
  does_refused k e =
      let s = step_refused k e in
      record { good = g; next = rw s; answer = sym (ap (λ (x : Step). call_of x.outcome.answer (length x.outcome.events)) s) }

  pub does_done : time < 2 ^ 64 → length st < 2 ^ 64 → MessageTyped given → (us ut : List ℕ) → first_refusal (plain_add.add_checks (length st) time given q) ≡ none
      → Shape us ut → length ut ≡ length st → options_at us ≡ options_at ws → model us ut ≡ plain_add.added time given q → Does call ws st (Accepted 0) us ut
  does_done ht hl t us ut e sh es eo em =
      let s = step_done e in
      let n : model us ut ≡ (run.step call q).next = em ∙ sym (ap (λ (x : Step). x.next) s) in
      let f : Fine q (run.step call q) = fine_step call q (hl, (ht, t)) g.well in
      record {
        good = record { shape = sh; store_is = rw eo (es ∙ g.store_is); well = rw n f.next_well };
        next = n;
        answer = sym (ap (λ (x : Step). call_of x.outcome.answer (length x.outcome.events)) s);
      }
