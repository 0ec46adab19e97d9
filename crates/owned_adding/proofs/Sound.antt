-- From the words of a queue: the tests of a message say that it may be added; the ways out. Assumes nothing.
use Rattle.std.specs.Prelude.{Option, Some, None, Ok, Err}
use mathlib.Core.Path.{◌≡◌, refl, sym, ◌∙◌, subst}
use mathlib.Core.Bool.{Bool, true, false}
use mathlib.Core.List.{List}
use Prim.Native.Nat.{ℕ, ◌-◌, ◌≤◌, ◌<◌, ◌^◌}
use native.Mathlib.Omega.{arith}
use borrow.Author.Tests.{lt-ltb, le-ltb, eq-eqb, ltb-false, eqb-false}
use lib.Dec.{ltb, eqb}
use lib.ListN.{length}
use Rattle.queue_words.specs.Flags.{pick}
use Rattle.queue_words.specs.Find.{Findable}
use Rattle.queue_words.specs.Header.{options_at, totals_at}
use Rattle.queue_words.specs.Streams.{stream_at_words}
use Rattle.queue_words.specs.declared.streams.OutgoingStream.{OutgoingStream}
use Rattle.queue_model.specs.Demands.{MessageTyped}
use Rattle.payload_store.specs.Words.{gaps_of}
use Rattle.payload_store.proofs.Goods.{used_fits}
use Rattle.queue_streams.specs.Answers.{call_number}
use Rattle.queue_streams.specs.Known.{new_stream_words, look_up, placed}
use Rattle.queue_streams.specs.Owned.{placed_as}
use Rattle.queue_streams.specs.Call as call
use Rattle.queue_streams.specs.Place.{Place}
use Rattle.queue_streams.specs.Place as place
use Rattle.queue_streams.specs.declared.known.Place as seat
use Rattle.queue_streams.specs.declared.known.Place.TheVariants as seat_is
use Rattle.queue_state.specs.Good.{Good}
use Rattle.queue_state.proofs.Looks.{Lookup, known_at_lem, new_at, lookup}
use Rattle.queue_messages.specs.Add.{asked_code, arguments_code, full_code, message_code, stream_for, row_for, made_known, refused_place, MayAppend, added, add_to, add, appended, stored}
use Rattle.queue_messages.specs.Message.{nanoseconds}
use Rattle.queue_messages.specs.Message.{Lifetime}
use Rattle.queue_messages.specs.declared.message.Message.{Message}
use Rattle.queue_messages.proofs.Lemmas as lemmas
use Rattle.queue_messages.proofs.Tested.{may_append}
use Rattle.linked_adding.specs.Message.{message_of_words}
use Rattle.linked_adding.proofs.Adds.{Passed, Sound, place_sound}
use Rattle.linked_adding.proofs.Meets.{add_meets}
use Rattle.linked_adding.proofs.Refuses.{message_none, lost_six}
use Rattle.owned_adding.specs.Add.{refusal_number, OneOf, Added, call_of, MayAdd, OwnedAdd}
use Rattle.owned_adding.specs.declared.Refusal.{Refusal}
use Rattle.owned_adding.specs.declared.Refusal.TheVariants as refusal

-- ---- the numbers that the tests give

pub asked_numbered : (time : ℕ) (l : Lifetime) (n code : ℕ) → code ≡ asked_code time l n → 0 < code → OneOf 4 5 code
asked_numbered time l n code e h n4 = go (ltb 4611686018427387903 time) (ltb 4611686018427387903 (nanoseconds l)) (eqb n 0) (ltb 262144 n) e
  where
    go : (a b c d : Bool) → code ≡ pick a 4 (pick b 4 (pick c 5 (pick d 5 0))) → 5 ≡ code
    go true b c d f = absurd (n4 f)
    go false true c d f = absurd (n4 f)
    go false false true d f = sym f
    go false false false true f = sym f
    go false false false false f = absurd (omega arith)

pub full_numbered : (ws : List ℕ) (len n code : ℕ) → code ≡ full_code ws len n → 0 < code → OneOf 7 8 code
unfolding full_code
full_numbered ws len n code e h n7 = go (ltb 1023 (totals_at ws).waiting) (ltb (len - (totals_at ws).used) n) e
  where
    go : (a b : Bool) → code ≡ pick a 7 (pick b 8 0) → 8 ≡ code
    go true b f = absurd (n7 f)
    go false true f = sym f
    go false false f = absurd (omega arith)

-- ---- what the tests that have passed say

pub record Asked (time : ℕ) (l : Lifetime) (n : ℕ) : Type 0 where
  pub time_fits : time ≤ 4611686018427387903
  pub lifetime_fits : nanoseconds l ≤ 4611686018427387903
  pub some_bytes : 1 ≤ n
  pub few_bytes : n ≤ 262144

asked_of : (time : ℕ) (l : Lifetime) (n code : ℕ) → code ≡ asked_code time l n → code ≤ 0 → Asked time l n
asked_of time l n code e h =
    go (ltb 4611686018427387903 time) refl (ltb 4611686018427387903 (nanoseconds l)) refl (eqb n 0) refl (ltb 262144 n) refl e
  where
    go : (a : Bool) → ltb 4611686018427387903 time ≡ a → (b : Bool) → ltb 4611686018427387903 (nanoseconds l) ≡ b → (c : Bool) → eqb n 0 ≡ c → (d : Bool) → ltb 262144 n ≡ d
        → code ≡ pick a 4 (pick b 4 (pick c 5 (pick d 5 0))) → Asked time l n
    go true ea b eb c ec d ed f = absurd (omega arith)
    go false ea true eb c ec d ed f = absurd (omega arith)
    go false ea false eb true ec d ed f = absurd (omega arith)
    go false ea false eb false ec true ed f = absurd (omega arith)
    go false ea false eb false ec false ed f = record {
      time_fits = ltb-false 4611686018427387903 time ea;
      lifetime_fits = ltb-false 4611686018427387903 (nanoseconds l) eb;
      some_bytes = let z : n ≡ 0 → ⊥ = eqb-false n 0 ec in omega arith;
      few_bytes = ltb-false 262144 n ed;
    }

full_of : (ws : List ℕ) (len n : ℕ) → full_code ws len n ≤ 0 → ((totals_at ws).waiting ≤ 1023) × (n ≤ len - (totals_at ws).used)
unfolding full_code
full_of ws len n h = go (ltb 1023 (totals_at ws).waiting) refl (ltb (len - (totals_at ws).used) n) refl h
  where
    go : (a : Bool) → ltb 1023 (totals_at ws).waiting ≡ a → (b : Bool) → ltb (len - (totals_at ws).used) n ≡ b → pick a 7 (pick b 8 0) ≤ 0 → ((totals_at ws).waiting ≤ 1023) × (n ≤ len - (totals_at ws).used)
    go true ea b eb f = absurd (omega arith)
    go false ea true eb f = absurd (omega arith)
    go false ea false eb f = (ltb-false 1023 (totals_at ws).waiting ea, ltb-false (len - (totals_at ws).used) n eb)

-- ---- from good words

pub may_find : (ws st : List ℕ) (g : Good ws st) (id : ℕ) → Findable ws id
may_find ws st g id e = go (lookup ws st g.shape id)
  where
    go : Lookup ws st id → ⊥
    go (known_at_lem i h ei f s) = let z : ◌≡◌ {A = ℕ} 0 1 = cc (e, f) in omega arith
    go (new_at p h lo hi f s) = let z : ◌≡◌ {A = ℕ} 0 1 = cc (e, f) in omega arith

refusal_fine : (x : Refusal) → refusal_number x ≡ 16 → ⊥
refusal_fine refusal.Time e = omega arith
refusal_fine refusal.Payload e = omega arith
refusal_fine refusal.Streams e = omega arith
refusal_fine refusal.Messages e = omega arith
refusal_fine refusal.Store e = omega arith

never_sixteen : (r : Added) → call_number (call_of r) ≡ 16 → ⊥
never_sixteen (Ok u) e = omega arith
never_sixteen (Err x) e = refusal_fine x e

-- a place is none that is refused
not_refused : (at : seat.Place) (c : ℕ) → placed at ≡ place.Refused c → ⊥
not_refused (seat_is.Row row) c e = let z : ◌≡◌ {A = ℕ} 0 1 = cc in omega arith
not_refused (seat_is.New position) c e = let z : ◌≡◌ {A = ℕ} 0 1 = cc in omega arith

placed_in : (ws : List ℕ) (len n : ℕ) (at : seat.Place) → refused_place ws len n (placed at) ≡ 0
placed_in ws len n (seat_is.Row row) = refl
placed_in ws len n (seat_is.New position) = refl

module _ (ws st : List ℕ) (g : Good ws st) (time : ℕ) (m : Message) (bs : List ℕ) (ht : time < 2 ^ 64) (typed : MessageTyped (message_of_words m bs)) where
  abbrev id : ℕ
  id = m.stream_id.0

  meets : (r : Added) (us ut : List ℕ) → added (call_of r) us ut ≡ add ws st time m bs → OwnedAdd ws st time m bs r us ut
  meets r us ut e = let y = add_meets ws st time m bs (call_of r) us ut ht typed e in record { words = e; tells = y.tells g; model = y.model g; no_sixteen = never_sixteen r }

  code_same : arguments_code ws (length st) time m.lifetime (length bs) ≡ asked_code time m.lifetime (length bs)
  unfolding arguments_code
  code_same = rw (eq-eqb (options_at ws).store_length (length st) (sym g.store_is))

  module _ (code : ℕ) (ec : code ≡ asked_code time m.lifetime (length bs)) where
    code_is : arguments_code ws (length st) time m.lifetime (length bs) ≡ code
    code_is = code_same ∙ sym ec

    pub out_asked : 0 < code → (x : Refusal) → refusal_number x ≡ code → OwnedAdd ws st time m bs (Err x) ws st
    unfolding add
    out_asked h x ex = meets (Err x) ws st (rw (code_is, lt-ltb 0 code h, ex))

    module _ (h : code ≤ 0) where
      asked : Asked time m.lifetime (length bs)
      asked = asked_of time m.lifetime (length bs) code ec h

      passed_of : full_code ws (length st) (length bs) ≤ 0 → Passed ws st bs
      passed_of f =
          let p = full_of ws (length st) (length bs) f in
          record { some_bytes = asked.some_bytes; few_bytes = asked.few_bytes; room_left = omega (arith, p.1, used_fits ws st (gaps_of ws) g.shape.lay); place_left = omega (arith, p.0) }

      message_of : full_code ws (length st) (length bs) ≤ 0 → (at : Place) → Sound ws st g time m bs ht typed at → ((c : ℕ) → at ≡ place.Refused c → ⊥) → message_code ws (length st) (stream_for ws at) (length bs) ≡ 0
      message_of f (place.Row row) k ne = let p = full_of ws (length st) (length bs) f in message_none ws (length st) (stream_at_words ws row) (length bs) p.0 p.1 k
      message_of f (place.New position) k ne = let p = full_of ws (length st) (length bs) f in message_none ws (length st) (new_stream_words (options_at ws)) (length bs) p.0 p.1 k
      message_of f (place.Refused c) k ne = absurd (ne c refl)

      may_by : (at : Place) → at ≡ look_up ws m.stream_id.0 → ((c : ℕ) → at ≡ place.Refused c → ⊥) → MayAdd ws st time m bs at
      may_by at e ne =
          record {
            has_place = lemmas.has_place ws m.stream_id.0 at e;
            time_fits = asked.time_fits;
            lifetime_fits = asked.lifetime_fits;
            unbroken = λ f. message_of f at (subst (Sound ws st g time m bs ht typed) (sym e) (place_sound ws st g time m bs ht typed (passed_of f))) ne;
          }

      module _ (found : Option seat.Place) (ef : placed_as found ≡ look_up ws m.stream_id.0) where
        module _ (at : seat.Place) (e : found ≡ Some at) where
          placed_is : placed at ≡ look_up ws m.stream_id.0
          placed_is = rw e at ef

          pub placed_may : MayAdd ws st time m bs (placed at)
          placed_may = may_by (placed at) placed_is (not_refused at)

          pub out_placed : (r : Added) (us ut : List ℕ) → added (call_of r) us ut ≡ add_to ws st time m bs (placed at) → OwnedAdd ws st time m bs r us ut
          unfolding add
          out_placed r us ut eo = meets r us ut (rw (code_is, le-ltb 0 code h, ← placed_is, placed_in ws (length st) (length bs) at) eo)

        pub out_full : found ≡ None → OwnedAdd ws st time m bs (Err refusal.Streams) ws st
        unfolding add
        out_full e = let full : place.Refused 6 ≡ look_up ws m.stream_id.0 = rw e at ef in
            meets (Err refusal.Streams) ws st (rw (code_is, le-ltb 0 code h, ← full, lost_six ws (length st) (length bs)))

-- ---- the message in its place

module _ (ws st : List ℕ) (time : ℕ) (m : Message) (bs : List ℕ) (at : Place) (y : MayAdd ws st time m bs at) (full : ℕ) (ef : full ≡ full_code ws (length st) (length bs)) where
  pub full_out : 0 < full → (x : Refusal) → refusal_number x ≡ full → added (call.Refused (refusal_number x)) ws st ≡ add_to ws st time m bs at
  unfolding add_to message_code
  full_out h x ex = rw (← ef, lt-ltb 0 full h, lt-ltb 0 full h, ex)

  module _ (h : full ≤ 0) where
    none : message_code ws (length st) (stream_for ws at) (length bs) ≡ 0
    none = y.unbroken (subst (λ (x : ℕ). x ≤ 0) ef h)

    pub append_asks : length ws ≡ 20768 → (row : ℕ) (s : OutgoingStream) (us : List ℕ) → row ≡ row_for ws at → s ≡ stream_for ws at → us ≡ made_known ws m.stream_id.0 at
        → (row < 256) × MayAppend us (length st) time m s (length bs)
    append_asks long = may_append ws (length st) time m (length bs) at long y.has_place y.time_fits y.lifetime_fits none

    pub append_out : (row : ℕ) (s : OutgoingStream) (us vs vt : List ℕ) → row ≡ row_for ws at → s ≡ stream_for ws at → us ≡ made_known ws m.stream_id.0 at
        → stored vs vt ≡ appended us st time m bs row s → added (call.Accepted 0) vs vt ≡ add_to ws st time m bs at
    unfolding add_to
    append_out row s us vs vt er es eu ea = rw (none, ← es, ← er, ← eu, ← ea)
