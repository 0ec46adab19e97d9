-- The ways out of passing over and of the call, over plain values: a callee's result is a variable, what it ensures a hypothesis. Assumes nothing.
use mathlib.Core.Path.{◌≡◌, refl, sym, ap, subst, ◌∙◌}
use mathlib.Core.Bool.{Bool, true, false}
use mathlib.Core.List.{List, [], ◌∷◌, ◌++◌}
use Prim.Native.Nat.{ℕ, zero, suc, ◌+◌, ◌-◌, ◌*◌, ◌≤◌, ◌<◌}
use native.Mathlib.Numerals.{add-one, sub-one}
use native.Mathlib.Omega.{arith}
use borrow.Author.Tests.{lt-ltb, le-ltb, ltb-true, ltb-false}
use lib.Dec.{ltb, eqb}
use lib.ListN.{length, take, drop, get_or, set, take-append-drop}
use Rattle.queue_words.specs.Flags.{pick}
use Rattle.payload_store.specs.Reading.{read_part}
use Rattle.message_chains.specs.Heads.{sent_notes}
use Rattle.queue_words.specs.Active.{active_at}
use Rattle.queue_words.specs.Items.{item_at, are_given}
use Rattle.queue_words.specs.Streams.{stream_at_words}
use Rattle.queue_words.specs.Header.{options_at, totals_at}
use Rattle.queue_words.specs.declared.items.Item.{Item}
use Rattle.queue_words.specs.declared.streams.OutgoingStream.{OutgoingStream}
use Rattle.queue_streams.specs.Events.{place_words, event_words}
use Rattle.queue_streams.specs.Settings.{CalledWith, called_with}
use Rattle.queue_streams.specs.Call.{Call}
use Rattle.queue_streams.specs.Call as call
use Rattle.undo_log.specs.Log.{header, undone}
use Rattle.queue_sending.specs.Choice.{look_ahead}
use Rattle.queue_sending.specs.Passing.{Kept}
use Rattle.queue_sending.specs.Data.{data_to_send, ProducedWith, produced_with, refused_with}
use Rattle.queue_sending.specs.Fragment.{least_of, send_code, written_sent, sent, handed_out_words}
use Rattle.queue_sending.specs.Numbers.{numbered_item, numbered_stream}
use Rattle.queue_sending.specs.Produce.{produce_code, expired_dropped, after_look, after_drop, after_call, pass_over_words, after_choice, after_turn, after_dropped, passed, sent_found, sent_chosen, sent_after, refusal, copied, settled_as, settled, past_from, produced_past, produced_after, produce_next}
use Rattle.queue_sending.proofs.Counts.{behind, pass_behind}
use Rattle.queue_sending.specs.Look.{Look}
use Rattle.queue_sending.specs.Look as look
use Rattle.queue_sending.specs.declared.data.DataToSend.{DataToSend}
use Rattle.queue_sending.specs.Produced.{Produced}
use Rattle.queue_sending.specs.Produced as produced

pub true_false : true ≡ false → ⊥
true_false e = let z : ◌≡◌ {A = ℕ} 0 1 = cc in omega arith

-- ------------------------------------------------------------------ numbers

-- giving numbers leaves the stream its messages
numbered_first : (s : OutgoingStream) (m : Item) → (numbered_stream s m).first ≡ s.first
unfolding numbered_stream
numbered_first s m = by (are_given m.numbers) m.unordered _ _ refl refl
  where
    by : (a b : Bool) (x y : OutgoingStream) → x.first ≡ s.first → y.first ≡ s.first → (pick a s (pick b x y)).first ≡ s.first
    by true b x y e g = refl
    by false true x y e g = e
    by false false x y e g = g

pub first_same : (s : OutgoingStream) (m : Item) (o : OutgoingStream) → o ≡ numbered_stream s m → o.first ≡ s.first
first_same s m o e = ap (λ (x : OutgoingStream). x.first) e ∙ numbered_first s m

-- ------------------------------------------------------------------ passing over

module _ (ws st es bs : List ℕ) (time size n k : ℕ) (f : Look) (ef : f ≡ look_ahead ws time) where
  pub pass_full : f ≡ look.Nothing → 2305 < k → refused_with 16 ws es bs ≡ pass_over_words n ws st es bs time size k
  unfolding pass_over_words
  pass_full e h = by n
    where
      by : (n : ℕ) → refused_with 16 ws es bs ≡ pass_over_words n ws st es bs time size k
      by zero = rw (← ef, e, lt-ltb _ _ h)
      by (suc m) = rw (← ef, e, lt-ltb _ _ h)

  pub pass_nothing : f ≡ look.Nothing → k ≤ 2305 → produced_with (produced.Nothing k) ws es bs ≡ pass_over_words n ws st es bs time size k
  unfolding pass_over_words
  pass_nothing e h = by n
    where
      by : (n : ℕ) → produced_with (produced.Nothing k) ws es bs ≡ pass_over_words n ws st es bs time size k
      by zero = rw (← ef, e, le-ltb _ _ h)
      by (suc m) = rw (← ef, e, le-ltb _ _ h)

  pub pass_broken : f ≡ look.Broken → refused_with 16 ws es bs ≡ pass_over_words n ws st es bs time size k
  unfolding pass_over_words
  pass_broken e = by n
    where
      by : (n : ℕ) → refused_with 16 ws es bs ≡ pass_over_words n ws st es bs time size k
      by zero = rw (← ef, e)
      by (suc m) = rw (← ef, e)

  pub pass_chosen : (at id row : ℕ) (p : ProducedWith) → f ≡ look.Chosen at id row → p ≡ handed_out_words ws st es bs size k at id row → p ≡ pass_over_words n ws st es bs time size k
  unfolding pass_over_words
  pass_chosen at id row p e ep = by n
    where
      by : (n : ℕ) → p ≡ pass_over_words n ws st es bs time size k
      by zero = rw (← ef, e) ep
      by (suc m) = rw (← ef, e) ep

  module _ (id row : ℕ) (e : f ≡ look.Expired id row) where
    pub pass_none : n ≡ 0 → refused_with 16 ws es bs ≡ pass_over_words n ws st es bs time size k
    unfolding pass_over_words
    pass_none z = rw (z, ← ef, e)

    module _ (nz : n ≡ 0 → ⊥) (d : Call) (l v : List ℕ) (ed : called_with d l v ≡ expired_dropped ws es k id row) where
      pub pass_again : (j : ℕ) (p : ProducedWith) → d ≡ call.Accepted j → p ≡ pass_over_words (n - 1) l st v bs time size j → p ≡ pass_over_words n ws st es bs time size k
      unfolding pass_over_words
      pass_again j p g ep = by n nz ep
        where
          by : (n : ℕ) → (n ≡ 0 → ⊥) → p ≡ pass_over_words (n - 1) l st v bs time size j → p ≡ pass_over_words n ws st es bs time size k
          by zero nz ep = absurd (nz refl)
          by (suc m) nz ep = rw (← ef, e, ← ed, g) (subst (λ (x : ℕ). p ≡ pass_over_words x l st v bs time size j) (sub-one (suc m)) ep)

      pub pass_stopped : (code : ℕ) → d ≡ call.Refused code → refused_with code l v bs ≡ pass_over_words n ws st es bs time size k
      unfolding pass_over_words
      pass_stopped code g = by n nz
        where
          by : (n : ℕ) → (n ≡ 0 → ⊥) → refused_with code l v bs ≡ pass_over_words n ws st es bs time size k
          by zero nz = absurd (nz refl)
          by (suc m) nz = rw (← ef, e, ← ed, g)

-- ------------------------------------------------------------------ the same in two parts

module _ (ws es : List ℕ) (time n k : ℕ) (f : Look) (ef : f ≡ look_ahead ws time) where
  pub over_nothing : f ≡ look.Nothing → called_with (call.Accepted k) ws es ≡ passed n ws es time k
  unfolding passed
  over_nothing e = by n
    where
      by : (n : ℕ) → called_with (call.Accepted k) ws es ≡ passed n ws es time k
      by zero = rw (← ef, e)
      by (suc m) = rw (← ef, e)

  pub over_broken : f ≡ look.Broken → called_with (call.Refused 16) ws es ≡ passed n ws es time k
  unfolding passed
  over_broken e = by n
    where
      by : (n : ℕ) → called_with (call.Refused 16) ws es ≡ passed n ws es time k
      by zero = rw (← ef, e)
      by (suc m) = rw (← ef, e)

  pub over_chosen : (at id row : ℕ) → f ≡ look.Chosen at id row → called_with (call.Accepted k) ws es ≡ passed n ws es time k
  unfolding passed
  over_chosen at id row e = by n
    where
      by : (n : ℕ) → called_with (call.Accepted k) ws es ≡ passed n ws es time k
      by zero = rw (← ef, e)
      by (suc m) = rw (← ef, e)

  module _ (id row : ℕ) (e : f ≡ look.Expired id row) where
    pub over_none : n ≡ 0 → called_with (call.Refused 16) ws es ≡ passed n ws es time k
    unfolding passed
    over_none z = rw (z, ← ef, e)

    module _ (nz : n ≡ 0 → ⊥) (d : Call) (l v : List ℕ) (ed : called_with d l v ≡ expired_dropped ws es k id row) where
      pub over_again : (j : ℕ) (p : CalledWith) → d ≡ call.Accepted j → p ≡ passed (n - 1) l v time j → p ≡ passed n ws es time k
      unfolding passed
      over_again j p g ep = by n nz ep
        where
          by : (n : ℕ) → (n ≡ 0 → ⊥) → p ≡ passed (n - 1) l v time j → p ≡ passed n ws es time k
          by zero nz ep = absurd (nz refl)
          by (suc m) nz ep = rw (← ef, e, ← ed, g) (subst (λ (x : ℕ). p ≡ passed x l v time j) (sub-one (suc m)) ep)

      pub over_stopped : (code : ℕ) → d ≡ call.Refused code → called_with (call.Refused code) l v ≡ passed n ws es time k
      unfolding passed
      over_stopped code g = by n nz
        where
          by : (n : ℕ) → (n ≡ 0 → ⊥) → called_with (call.Refused code) l v ≡ passed n ws es time k
          by zero nz = absurd (nz refl)
          by (suc m) nz = rw (← ef, e, ← ed, g)

-- what is sent after heads are passed over
abbrev sent_of : List ℕ → List ℕ → ℕ → ℕ → CalledWith → ProducedWith
sent_of st bs time size c = sent_after c.next st c.events bs time size c.answer

look_split : (x : ℕ → ℕ → CalledWith) (y : ℕ → ℕ → ProducedWith) (ws st es bs : List ℕ) (time size k : ℕ)
    → ((id row : ℕ) → sent_of st bs time size (x id row) ≡ y id row)
    → (l : Look) → look_ahead ws time ≡ l → sent_of st bs time size (after_choice x ws es k l) ≡ after_look y ws st es bs size k l
unfolding sent_chosen
look_split x y ws st es bs time size k h look.Nothing e = rw e
look_split x y ws st es bs time size k h look.Broken e = refl
look_split x y ws st es bs time size k h (look.Expired id row) e = h id row
look_split x y ws st es bs time size k h (look.Chosen at id row) e = rw e

turn_split : (again : List ℕ → List ℕ → ℕ → CalledWith) (more : List ℕ → List ℕ → ℕ → ProducedWith) (st bs : List ℕ) (time size : ℕ)
    → ((l v : List ℕ) (j : ℕ) → sent_of st bs time size (again l v j) ≡ more l v j)
    → (ws es : List ℕ) (a : Call) → sent_of st bs time size (after_turn again ws es a) ≡ after_drop more ws es bs a
turn_split again more st bs time size h ws es (call.Accepted j) = h ws es j
turn_split again more st bs time size h ws es (call.Refused code) = refl

-- The two parts together are passing over.
pub in_two_parts : (n : ℕ) (ws st es bs : List ℕ) (time size k : ℕ) → sent_of st bs time size (passed n ws es time k) ≡ pass_over_words n ws st es bs time size k
unfolding passed pass_over_words
in_two_parts zero ws st es bs time size k =
    look_split (λ (id row : ℕ). called_with (call.Refused 16) ws es) (λ (id row : ℕ). refused_with 16 ws es bs) ws st es bs time size k (λ id row. refl) (look_ahead ws time) refl
in_two_parts (suc n) ws st es bs time size k =
    look_split (λ (id row : ℕ). after_dropped (λ (l v : List ℕ) (j : ℕ). passed n l v time j) (expired_dropped ws es k id row))
    (λ (id row : ℕ). after_call (λ (l v : List ℕ) (j : ℕ). pass_over_words n l st v bs time size j) bs (expired_dropped ws es k id row)) ws st es bs time size k
    (λ id row. turn_split (λ (l v : List ℕ) (j : ℕ). passed n l v time j) (λ (l v : List ℕ) (j : ℕ). pass_over_words n l st v bs time size j) st bs time size
    (λ l v j. in_two_parts n l st v bs time size j) (expired_dropped ws es k id row).next (expired_dropped ws es k id row).events (expired_dropped ws es k id row).answer)
    (look_ahead ws time) refl

pub both_parts : (n : ℕ) (ws st es bs : List ℕ) (time size k : ℕ) (d : Call) (l v : List ℕ) (p : ProducedWith)
    → called_with d l v ≡ passed n ws es time k → p ≡ sent_after l st v bs time size d → p ≡ pass_over_words n ws st es bs time size k
both_parts n ws st es bs time size k d l v p e f = f ∙ ap (λ (c : CalledWith). sent_of st bs time size c) e ∙ in_two_parts n ws st es bs time size k

-- ------------------------------------------------------------------ a refusal leaves the fragment buffer

-- Refused, all is as it was.
pub record Stays (ws es bs : List ℕ) (p : ProducedWith) : Type 0 where
  pub stays : (code : ℕ) → p.answer ≡ produced.Refused code → (p.words ≡ ws) × (p.events ≡ es) × (p.buffer ≡ bs)

stay_refused : (code : ℕ) (ws es bs : List ℕ) → Stays ws es bs (refused_with code ws es bs)
stay_refused code ws es bs = record { stays = λ c h. (refl, refl, refl) }

stay_nothing : (k : ℕ) (ws es bs l v u : List ℕ) → Stays ws es bs (produced_with (produced.Nothing k) l v u)
stay_nothing k ws es bs l v u = record { stays = λ c h. absurd (other c h) }
  where
    other : (c : ℕ) → produced.Nothing k ≡ produced.Refused c → ⊥
    other c h = let z : ◌≡◌ {A = ℕ} 0 1 = cc in omega arith

stay_fragment : (k : ℕ) (d : DataToSend) (ws es bs l v u : List ℕ) → Stays ws es bs (produced_with (produced.Fragment k d) l v u)
stay_fragment k d ws es bs l v u = record { stays = λ c h. absurd (other c h) }
  where
    other : (c : ℕ) → produced.Fragment k d ≡ produced.Refused c → ⊥
    other c h = let z : ◌≡◌ {A = ℕ} 0 1 = cc in omega arith

stay_pick : (ws es bs : List ℕ) (b : Bool) (p q : ProducedWith) → Stays ws es bs p → Stays ws es bs q → Stays ws es bs (pick b p q)
stay_pick ws es bs true p q x y = x
stay_pick ws es bs false p q x y = y

sent_stays : (ws st es bs : List ℕ) (k at id row : ℕ) (s : OutgoingStream) (m : Item) (n : ℕ) → Stays ws es bs (sent ws st es bs k at id row s m n)
unfolding sent
sent_stays ws st es bs k at id row s m n =
    stay_pick ws es bs (ltb 0 (send_code ws (length st) s m n (length bs))) _ _ (stay_refused (send_code ws (length st) s m n (length bs)) ws es bs)
    (stay_fragment (sent_notes ws es k id s n).count (data_to_send id (numbered_item s m) n) ws es bs (written_sent ws at id row (numbered_stream s m) (numbered_item s m) n (are_given m.numbers))
    (sent_notes ws es k id s n).events (read_part ws st s.first m.offset n bs))

hand_stays : (ws st es bs : List ℕ) (size k at id row : ℕ) → Stays ws es bs (handed_out_words ws st es bs size k at id row)
unfolding handed_out_words
hand_stays ws st es bs size k at id row =
    stay_pick ws es bs (ltb 2303 k) _ _ (stay_refused 16 ws es bs)
    (stay_pick ws es bs (ltb 255 at) _ _ (stay_refused 16 ws es bs)
    (stay_pick ws es bs (ltb 255 row) _ _ (stay_refused 16 ws es bs)
    (stay_pick ws es bs (ltb 1023 (stream_at_words ws row).first) _ _ (stay_refused 16 ws es bs)
    (sent_stays ws st es bs k at id row (stream_at_words ws row) (item_at ws (stream_at_words ws row).first) (least_of (active_at ws at).bytes_remaining size)))))

-- Refused, at least the fragment buffer is as it was.
pub record Keeps (bs : List ℕ) (p : ProducedWith) : Type 0 where
  pub keeps : (code : ℕ) → p.answer ≡ produced.Refused code → p.buffer ≡ bs

stay_keeps : (ws es bs : List ℕ) (p : ProducedWith) → Stays ws es bs p → Keeps bs p
stay_keeps ws es bs p x = record { keeps = λ c h. (x.stays c h).2 }

look_keeps : (expired : ℕ → ℕ → ProducedWith) (ws st es bs : List ℕ) (size k : ℕ) → ((id row : ℕ) → Keeps bs (expired id row))
    → (l : Look) → Keeps bs (after_look expired ws st es bs size k l)
look_keeps expired ws st es bs size k h look.Nothing =
    stay_keeps ws es bs _ (stay_pick ws es bs (ltb 2305 k) (refused_with 16 ws es bs) (produced_with (produced.Nothing k) ws es bs) (stay_refused 16 ws es bs) (stay_nothing k ws es bs ws es bs))
look_keeps expired ws st es bs size k h look.Broken = stay_keeps ws es bs (refused_with 16 ws es bs) (stay_refused 16 ws es bs)
look_keeps expired ws st es bs size k h (look.Expired id row) = h id row
look_keeps expired ws st es bs size k h (look.Chosen at id row) = stay_keeps ws es bs (handed_out_words ws st es bs size k at id row) (hand_stays ws st es bs size k at id row)

drop_keeps : (again : List ℕ → List ℕ → ℕ → ProducedWith) (ws es bs : List ℕ) → ((l v : List ℕ) (j : ℕ) → Keeps bs (again l v j)) → (d : Call) → Keeps bs (after_drop again ws es bs d)
drop_keeps again ws es bs h (call.Accepted j) = h ws es j
drop_keeps again ws es bs h (call.Refused code) = stay_keeps ws es bs (refused_with code ws es bs) (stay_refused code ws es bs)

-- Whatever is dropped on the way, a refusal leaves the fragment buffer as it was.
pub pass_keeps : (n : ℕ) (ws st es bs : List ℕ) (time size k : ℕ) → Keeps bs (pass_over_words n ws st es bs time size k)
unfolding pass_over_words
pass_keeps zero ws st es bs time size k = look_keeps _ ws st es bs size k (λ id row. stay_keeps ws es bs (refused_with 16 ws es bs) (stay_refused 16 ws es bs)) (look_ahead ws time)
pass_keeps (suc n) ws st es bs time size k =
    look_keeps _ ws st es bs size k
    (λ id row. drop_keeps (λ (l v : List ℕ) (j : ℕ). pass_over_words n l st v bs time size j) (expired_dropped ws es k id row).next (expired_dropped ws es k id row).events bs
    (λ l v j. pass_keeps n l st v bs time size j) (expired_dropped ws es k id row).answer)
    (look_ahead ws time)

-- ------------------------------------------------------------------ the call on copies

one_more : (src dst : List ℕ) (i : ℕ) → i < length src → i < length dst → set (take i src ++ drop i dst) i (get_or src i 0) ≡ take (suc i) src ++ drop (suc i) dst
one_more [] dst i h k = absurd (omega arith)
one_more (x ∷ xs) [] i h k = absurd (omega arith)
one_more (x ∷ xs) (y ∷ ys) zero h k = refl
one_more (x ∷ xs) (y ∷ ys) (suc i) h k = ap (λ (l : List ℕ). x ∷ l) (one_more xs ys i (omega arith) (omega arith))

-- a turn of the loop that copies
pub turn : (src dst₀ dst : List ℕ) (i : ℕ) → i < length src → i < length dst₀ → dst ≡ take i src ++ drop i dst₀ → set dst i (get_or src i 0) ≡ take (i + 1) src ++ drop (i + 1) dst₀
turn src dst₀ dst i h k e = rw (e, add-one) (one_more src dst₀ i h k)

take_again : (n : ℕ) (es xs : List ℕ) → n ≤ length es → take n (take n es ++ xs) ≡ take n es
take_again zero es xs h = refl
take_again (suc n) [] xs h = absurd (omega arith)
take_again (suc n) (y ∷ ys) xs h = ap (λ (l : List ℕ). y ∷ l) (take_again n ys xs (omega arith))

-- what was saved of a list, put back
model_put_back : (n : ℕ) (zs es v : List ℕ) → n ≤ length es → drop n v ≡ drop n es → copied v (copied zs es n) n ≡ es
unfolding copied
model_put_back n zs es v h e = rw (take_again n es (drop n zs) h, e) (take-append-drop n es)

-- what leaves all as it was where it is refused is settled
settled_is : (ws es bs : List ℕ) (p : ProducedWith) → Stays ws es bs p → p ≡ settled ws es bs p
settled_is ws es bs p x = by p.answer refl
  where
    same : (code : ℕ) (a : Produced) (l v u : List ℕ) → a ≡ produced.Refused code → l ≡ ws → v ≡ es → u ≡ bs → produced_with a l v u ≡ refused_with code ws es bs
    same code a l v u e el ev eu = rw (e, el, ev, eu)

    by : (r : Produced) → p.answer ≡ r → p ≡ settled_as ws es bs p r
    by (produced.Nothing k) e = refl
    by (produced.Fragment k d) e = refl
    by (produced.Refused code) e = same code p.answer p.words p.events p.buffer e (x.stays code e).0 (x.stays code e).1 (x.stays code e).2

-- what is settled leaves all as it was where it is refused
settled_stays : (ws es bs : List ℕ) (p : ProducedWith) → Stays ws es bs (settled ws es bs p)
settled_stays ws es bs p = by p.answer refl
  where
    by : (r : Produced) → p.answer ≡ r → Stays ws es bs (settled_as ws es bs p r)
    by (produced.Nothing k) e = record { stays = λ c h. (stay_nothing k ws es bs p.words p.events p.buffer).stays c (sym e ∙ h) }
    by (produced.Fragment k d) e = record { stays = λ c h. (stay_fragment k d ws es bs p.words p.events p.buffer).stays c (sym e ∙ h) }
    by (produced.Refused code) e = stay_refused code ws es bs

-- refused when settled elsewhere, it is refused when settled here
refused_settled : (ws es bs us vs : List ℕ) (p : ProducedWith) (code : ℕ) → (settled us vs bs p).answer ≡ produced.Refused code → settled ws es bs p ≡ refused_with code ws es bs
refused_settled ws es bs us vs p code h = by p.answer refl
  where
    stay_none : (k : ℕ) → produced.Nothing k ≡ produced.Refused code → ⊥
    stay_none k z = let y : ◌≡◌ {A = ℕ} 0 1 = cc in omega arith

    stay_some : (k : ℕ) (d : DataToSend) → produced.Fragment k d ≡ produced.Refused code → ⊥
    stay_some k d z = let y : ◌≡◌ {A = ℕ} 0 1 = cc in omega arith

    by : (r : Produced) → p.answer ≡ r → settled ws es bs p ≡ refused_with code ws es bs
    by (produced.Nothing k) e =
        let q : settled us vs bs p ≡ p = ap (λ (x : Produced). settled_as us vs bs p x) e in
        absurd (stay_none k (sym e ∙ ap (λ (x : ProducedWith). x.answer) (sym q) ∙ h))
    by (produced.Fragment k d) e =
        let q : settled us vs bs p ≡ p = ap (λ (x : Produced). settled_as us vs bs p x) e in
        absurd (stay_some k d (sym e ∙ ap (λ (x : ProducedWith). x.answer) (sym q) ∙ h))
    by (produced.Refused c) e =
        let q : settled us vs bs p ≡ refused_with c us vs bs = ap (λ (x : Produced). settled_as us vs bs p x) e in
        let same : produced.Refused c ≡ produced.Refused code = ap (λ (x : ProducedWith). x.answer) (sym q) ∙ h in
        ap (λ (x : Produced). settled_as ws es bs p x) e ∙ ap (λ (x : Produced). produced_with x ws es bs) same

-- an answer that is settled already: refused, all is as it was
pub settled_twice : (ws es bs : List ℕ) (p : ProducedWith) (r : Produced) (l v u : List ℕ) → produced_with r l v u ≡ settled ws es bs p → Stays ws es bs (produced_with r l v u)
settled_twice ws es bs p r l v u e = subst (λ (x : ProducedWith). Stays ws es bs x) (sym e) (settled_stays ws es bs p)

-- what is settled, and not refused, is what it was before
kept_settled : (ws es bs : List ℕ) (p : ProducedWith) (r : Produced) (l v u : List ℕ) → produced_with r l v u ≡ settled ws es bs p → refusal r ≡ false → produced_with r l v u ≡ p
kept_settled ws es bs p r l v u e g = by p.answer refl
  where
    by : (a : Produced) → p.answer ≡ a → produced_with r l v u ≡ p
    by (produced.Nothing k) h = e ∙ ap (λ (x : Produced). settled_as ws es bs p x) h
    by (produced.Fragment k d) h = e ∙ ap (λ (x : Produced). settled_as ws es bs p x) h
    by (produced.Refused code) h =
        let q : r ≡ produced.Refused code = ap (λ (x : ProducedWith). x.answer) (e ∙ ap (λ (x : Produced). settled_as ws es bs p x) h) in
        let z : true ≡ false = sym (ap refusal q) ∙ g in
        absurd (true_false z)

module _ (ws st es bs : List ℕ) (time size n k : ℕ) (r : Produced) (l v u : List ℕ) (ep : produced_with r l v u ≡ pass_over_words n ws st es bs time size k) (q : Bool) (eq : q ≡ refusal r) where
  past_is : settled ws es bs (produced_with r l v u) ≡ past_from ws st es bs time size n k
  unfolding past_from
  past_is = ap (λ (p : ProducedWith). settled ws es bs p) ep

  pub past_refused : q ≡ true → (zs saved w : List ℕ) → event_words ≤ length es → saved ≡ copied zs es event_words → w ≡ copied v saved event_words → produced_with r ws w u ≡ past_from ws st es bs time size n k
  past_refused g zs saved w long esaved ew = by r refl ∙ past_is
    where
      by : (r' : Produced) → r ≡ r' → produced_with r ws w u ≡ settled ws es bs (produced_with r l v u)
      by (produced.Nothing j) e = let z : true ≡ false = sym g ∙ eq ∙ ap refusal e in absurd (true_false z)
      by (produced.Fragment j d) e = let z : true ≡ false = sym g ∙ eq ∙ ap refusal e in absurd (true_false z)
      by (produced.Refused code) e =
          let a : (pass_over_words n ws st es bs time size k).answer ≡ produced.Refused code = sym (ap (λ (x : ProducedWith). x.answer) ep) ∙ e in
          let b : u ≡ bs = ap (λ (x : ProducedWith). x.buffer) ep ∙ (pass_keeps n ws st es bs time size k).keeps code a in
          let d : behind v ≡ behind es = ap (λ (x : ProducedWith). behind x.events) ep ∙ pass_behind (behind es) n ws st es bs time size k refl in
          let f : w ≡ es = ew ∙ ap (λ (x : List ℕ). copied v x event_words) esaved ∙ model_put_back event_words zs es v long d in
          rw (e, b, f)

  pub past_kept : q ≡ false → produced_with r l v u ≡ past_from ws st es bs time size n k
  past_kept g = by r refl ∙ past_is
    where
      by : (r' : Produced) → r ≡ r' → produced_with r l v u ≡ settled ws es bs (produced_with r l v u)
      by (produced.Nothing j) e = rw e (ap (λ (x : Produced). produced_with x l v u) (sym e))
      by (produced.Fragment j d) e = rw e (ap (λ (x : Produced). produced_with x l v u) (sym e))
      by (produced.Refused code) e = let z : false ≡ true = sym g ∙ eq ∙ ap refusal e in absurd (true_false (sym z))

-- ------------------------------------------------------------------ the call with a log

-- Passing over goes on from us and vs, which it has come to from ws and es, and that was settled there.
module _ (room : ℕ) (ws st es bs : List ℕ) (time size n k : ℕ) (log us vs : List ℕ) (left count drops : ℕ) (g : Kept room ws es time n k log us vs left count drops)
    (r : Produced) (l v u : List ℕ) (ep : produced_with r l v u ≡ past_from us st vs bs time size left count) (q : Bool) (eq : q ≡ refusal r) where
  same_way : pass_over_words left us st vs bs time size count ≡ pass_over_words n ws st es bs time size k
  same_way = sym (in_two_parts left us st vs bs time size count) ∙ ap (λ (c : CalledWith). sent_of st bs time size c) g.over ∙ in_two_parts n ws st es bs time size k

  there : produced_with r l v u ≡ settled us vs bs (pass_over_words n ws st es bs time size k)
  unfolding past_from
  there = ep ∙ ap (λ (p : ProducedWith). settled us vs bs p) same_way

  pub logged_kept : q ≡ false → produced_with r l v u ≡ past_from ws st es bs time size n k
  unfolding past_from
  logged_kept h =
      let e : produced_with r l v u ≡ pass_over_words n ws st es bs time size k = kept_settled us vs bs (pass_over_words n ws st es bs time size k) r l v u there (sym eq ∙ h) in
      past_kept ws st es bs time size n k r l v u e q eq h

  pub logged_refused : q ≡ true → (zs xs saved head w x : List ℕ) (few : ℕ) → (k + room * 4) * place_words ≤ few → few ≤ length es → header ≤ length ws
      → head ≡ copied zs ws header → saved ≡ copied xs es few → w ≡ copied (undone log drops l) head header → length saved ≡ few → x ≡ copied v saved (length saved)
      → produced_with r w x u ≡ past_from ws st es bs time size n k
  unfolding past_from
  logged_refused h zs xs saved head w x few fits le lw eh es' ew ls ex = by r refl
    where
      by : (r' : Produced) → r ≡ r' → produced_with r w x u ≡ settled ws es bs (pass_over_words n ws st es bs time size k)
      by (produced.Nothing j) e = let z : true ≡ false = sym h ∙ eq ∙ ap refusal e in absurd (true_false z)
      by (produced.Fragment j d) e = let z : true ≡ false = sym h ∙ eq ∙ ap refusal e in absurd (true_false z)
      by (produced.Refused code) e =
          let a = (settled_twice us vs bs (pass_over_words n ws st es bs time size k) r l v u there).stays code e in
          let fw : w ≡ ws = ew ∙ rw (a.0, eh) (model_put_back header zs ws (undone log drops us) lw g.back) in
          let fx : x ≡ es = ex ∙ rw (ls, a.1, es') (model_put_back few xs es vs le (g.behind few fits)) in
          rw (e, fw, fx, a.2) (sym (refused_settled ws es bs us vs (pass_over_words n ws st es bs time size k) code (sym (ap (λ (y : ProducedWith). y.answer) there) ∙ e)))

-- whether a look has found an expired head
abbrev pub expired_found : Look → Bool
expired_found look.Nothing = false
expired_found look.Broken = false
expired_found (look.Expired id row) = true
expired_found (look.Chosen at id row) = false

-- Where nothing has expired any more, sending from what was found is all that is left of passing over.
pub found_past : (ws st es bs : List ℕ) (time size n k : ℕ) (f : Look) → f ≡ look_ahead ws time → expired_found f ≡ false → sent_found ws st es bs size k f ≡ past_from ws st es bs time size n k
unfolding past_from
found_past ws st es bs time size n k f ef g = by f refl
  where
    full : f ≡ look.Nothing → (b : Bool) → ltb 2305 k ≡ b → sent_found ws st es bs size k f ≡ settled ws es bs (pass_over_words n ws st es bs time size k)
    full e true h = rw (e, h) (ap (λ (p : ProducedWith). settled ws es bs p) (pass_full ws st es bs time size n k f ef e (ltb-true 2305 k h)))
    full e false h = rw (e, h) (ap (λ (p : ProducedWith). settled ws es bs p) (pass_nothing ws st es bs time size n k f ef e (ltb-false 2305 k h)))

    by : (o : Look) → f ≡ o → sent_found ws st es bs size k f ≡ settled ws es bs (pass_over_words n ws st es bs time size k)
    by look.Nothing e = full e (ltb 2305 k) refl
    by look.Broken e = rw e (ap (λ (p : ProducedWith). settled ws es bs p) (pass_broken ws st es bs time size n k f ef e))
    by (look.Expired id row) e = let z : true ≡ false = sym (ap expired_found e) ∙ g in absurd (true_false z)
    by (look.Chosen at id row) e =
        rw e
        (settled_is ws es bs (handed_out_words ws st es bs size k at id row) (hand_stays ws st es bs size k at id row)
        ∙ ap (λ (p : ProducedWith). settled ws es bs p) (pass_chosen ws st es bs time size n k f ef at id row (handed_out_words ws st es bs size k at id row) e refl))

pub then_copied : (a b w head : List ℕ) (n : ℕ) → b ≡ a → w ≡ copied b head n → w ≡ copied a head n
then_copied a b w head n e f = f ∙ ap (λ (l : List ℕ). copied l head n) e

-- where the arguments are not refused, the list of events has its places
pub code_places : (ws : List ℕ) (len places room time size code : ℕ) → code ≡ produce_code ws len places room time size → code ≤ 0 → event_words ≤ places
unfolding produce_code
code_places ws len places room time size code ec h = by (eqb (options_at ws).store_length len) (ltb places event_words) _ refl (subst (λ (x : ℕ). x ≤ 0) ec h)
  where
    by : (a b : Bool) (x : ℕ) → ltb places event_words ≡ b → pick a (pick b 3 x) 2 ≤ 0 → event_words ≤ places
    by true true x e h = absurd (omega arith)
    by true false x e h = ltb-false places event_words e
    by false b x e h = absurd (omega arith)

-- ------------------------------------------------------------------ a refused call

past_stays : (ws st es bs : List ℕ) (time size k : ℕ) → Stays ws es bs (produced_past ws st es bs time size k)
unfolding produced_past past_from
past_stays ws st es bs time size k =
    stay_pick ws es bs (ltb 1024 (totals_at ws).waiting) _ _ (stay_refused 16 ws es bs) (settled_stays ws es bs (pass_over_words (totals_at ws).waiting ws st es bs time size k))

-- Refused, the call leaves the queue, the list of events and the fragment buffer as they were; also after k events.
pub after_refused : (ws st es bs : List ℕ) (time size k : ℕ) → Stays ws es bs (produced_after ws st es bs time size k)
unfolding produced_after
after_refused ws st es bs time size k = by (look_ahead ws time)
  where
    by : (l : Look) → Stays ws es bs (after_look (λ (id row : ℕ). produced_past ws st es bs time size k) ws st es bs size k l)
    by look.Nothing = stay_pick ws es bs (ltb 2305 k) _ _ (stay_refused 16 ws es bs) (stay_nothing k ws es bs ws es bs)
    by look.Broken = stay_refused 16 ws es bs
    by (look.Expired id row) = past_stays ws st es bs time size k
    by (look.Chosen at id row) = hand_stays ws st es bs size k at id row

pub produce_refused : (ws st es bs : List ℕ) (time size : ℕ) → Stays ws es bs (produce_next ws st es bs time size)
unfolding produce_next
produce_refused ws st es bs time size =
    stay_pick ws es bs (ltb 0 (produce_code ws (length st) (length es) (length bs) time size)) _ _
    (stay_refused (produce_code ws (length st) (length es) (length bs) time size) ws es bs) (after_refused ws st es bs time size 0)

-- ------------------------------------------------------------------ the call is passing over

-- Also where no head has expired the call leaves what passing over as many messages as wait leaves; after k events.
pub after_passes : (ws st es bs : List ℕ) (time size k : ℕ) → k ≤ 2305 → (totals_at ws).waiting ≤ 1024 → produced_after ws st es bs time size k ≡ settled ws es bs (pass_over_words (totals_at ws).waiting ws st es bs time size k)
unfolding produced_after produced_past past_from
after_passes ws st es bs time size k hk h = by (look_ahead ws time) refl
  where
    n : ℕ
    n = (totals_at ws).waiting

    all : ProducedWith
    all = settled ws es bs (pass_over_words n ws st es bs time size k)

    by : (l : Look) → look_ahead ws time ≡ l → after_look (λ (id row : ℕ). produced_past ws st es bs time size k) ws st es bs size k l ≡ all
    by look.Nothing e = rw (le-ltb _ _ hk) (ap (λ (p : ProducedWith). settled ws es bs p) (pass_nothing ws st es bs time size n k look.Nothing (sym e) refl hk))
    by look.Broken e = ap (λ (p : ProducedWith). settled ws es bs p) (pass_broken ws st es bs time size n k look.Broken (sym e) refl)
    by (look.Expired id row) e = rw (le-ltb _ _ h)
    by (look.Chosen at id row) e =
        settled_is ws es bs (handed_out_words ws st es bs size k at id row) (hand_stays ws st es bs size k at id row)
        ∙ ap (λ (p : ProducedWith). settled ws es bs p) (pass_chosen ws st es bs time size n k (look.Chosen at id row) (sym e) at id row (handed_out_words ws st es bs size k at id row) refl refl)

pub produce_passes : (ws st es bs : List ℕ) (time size : ℕ) → (totals_at ws).waiting ≤ 1024
    → produce_next ws st es bs time size
    ≡ pick (ltb 0 (produce_code ws (length st) (length es) (length bs) time size)) (refused_with (produce_code ws (length st) (length es) (length bs) time size) ws es bs)
    (settled ws es bs (pass_over_words (totals_at ws).waiting ws st es bs time size 0))
unfolding produce_next
produce_passes ws st es bs time size h =
    ap (λ (p : ProducedWith). pick (ltb 0 (produce_code ws (length st) (length es) (length bs) time size)) (refused_with (produce_code ws (length st) (length es) (length bs) time size) ws es bs) p)
    (after_passes ws st es bs time size 0 (omega arith) h)
