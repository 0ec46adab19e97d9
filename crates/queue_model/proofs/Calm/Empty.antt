-- Two calm queues without messages that cannot be told apart have the same counters and next message id: a tiny message added and sent shows them.
-- Assumes nothing.
use mathlib.Core.Path.{◌≡◌, refl, sym, ap, ap₂, ◌∙◌, subst}
use mathlib.Core.Bool.{Bool, true, false, not, ◌&&◌, ◌||◌}
use mathlib.Core.List.{List, [], ◌∷◌, ◌++◌}
use mathlib.Core.Option.{Option, none, some}
use Prim.Native.Nat.{ℕ, ◌+◌, ◌-◌, ◌^◌, ◌≤◌, ◌<◌}
use native.Mathlib.Omega.{arith}
use lib.Dec.{leb, eqb}
use lib.ListN.{length}
use Rattle.types.specs.Wrap.{wrap_suc}
use Rattle.std.specs.Prelude.{if◌then◌else◌}
use Rattle.queue_model.specs.Logic.{is_some}
use Rattle.queue_model.specs.Table.{find}
use Rattle.queue_model.specs.Types.{Item, PauseState, Counters, Stream, Scheduler, Options, Queue, Fragment, Answer, refused, done, fragment, Outcome, Step, remaining, with_items, Message, reply, refuse}
use Rattle.queue_model.specs.Streams.{max_messages, max_streams, find_stream, put_stream, too_many, waiting, payload_bytes, occupied, some_items, has_items, reschedule, amounts, stream_key, at, free_bytes}
use Rattle.queue_model.specs.Refusals.{◌when◌, max_word, store_other, time_late, payload_wrong, messages_full, store_full, overflows}
use Rattle.queue_model.specs.Add.{starts_waiting, new_item, expiry, added}
use Rattle.queue_model.specs.Produce.{numbered, give_numbers, make_fragment}
use Rattle.queue_model.specs.Run.{Call, add, produce, step, run}
use Rattle.queue_model.specs.Demands.{Typed, Indistinguishable}
use Rattle.queue_model.proofs.Tests.{ltb_false, leb_false, eqb_true, tri, less, same, more}
use Rattle.queue_model.proofs.Table.{find_here, find_there, find_put_same, find_put_other, empty, first, split, found, missing, look_up, every_find}
use Rattle.queue_model.proofs.Checks.{checked_but}
use Rattle.queue_model.proofs.Streams.{at_found, at_new, at_id, unsent_bytes, sum_put_at}
use Rattle.queue_model.proofs.Calm.Entries.{actives, actives_none, actives_some}
use Rattle.queue_model.proofs.Calm.Calm.{still_some, GoodItem, GoodItems, GoodStream, AllGood, GoodStreams, good_put, calm_scheduler, calm, reschedule_put, HeadAt}
use Rattle.queue_model.proofs.Calm.Produce.{whole, whole_head}
use Rattle.queue_model.proofs.Calm.Solo.{Solo, solo_list, solo_choice}
use Rattle.queue_model.specs.Calls

-- ---- what cannot be told apart shows the same, and stays so

run_cons : (c : Call) (cs : List Call) (q : Queue) → run (c ∷ cs) q ≡ (step c q).outcome ∷ run cs (step c q).next
unfolding run
run_cons c cs q = refl

pub shown : (q₁ q₂ : Queue) → Indistinguishable q₁ q₂ → (c : Call) → Typed c → (step c q₁).outcome ≡ (step c q₂).outcome
shown q₁ q₂ h c t = let e : run (c ∷ []) q₁ ≡ run (c ∷ []) q₂ = h (c ∷ []) (t, tt) in go e
  where
    go : run (c ∷ []) q₁ ≡ run (c ∷ []) q₂ → (step c q₁).outcome ≡ (step c q₂).outcome
    go e = cc (run_cons c [] q₁, run_cons c [] q₂)

pub onward : (q₁ q₂ : Queue) → Indistinguishable q₁ q₂ → (c : Call) → Typed c → Indistinguishable (step c q₁).next (step c q₂).next
onward q₁ q₂ h c t cs ts = let e : run (c ∷ cs) q₁ ≡ run (c ∷ cs) q₂ = h (c ∷ cs) (t, ts) in cc (run_cons c cs q₁, run_cons c cs q₂)

-- ---- the tiny message

abbrev pub tiny : Bool → ℕ → Message
tiny u k = record { stream_id = k; ppid = 0; unordered = u; max_retransmissions = none; lifetime = none; lifecycle_id = 0; payload = 0 ∷ [] }

-- Nothing waits in any stream.
no_items : (limit : ℕ) (il : Bool) (ss : List Stream) → actives limit il ss ≡ [] → (j : ℕ) (s : Stream) → find_stream j ss ≡ some s → s.items ≡ []
no_items limit il [] a j s e = let f : find_stream j [] ≡ none = unfold find in refl in let z : ◌≡◌ {A = ℕ} 0 1 = cc in absurd (omega arith)
no_items limit il (r ∷ rs) a j s e = elim (split r.items) [
  | empty f ↦ elim (tri r.id j) [
    | less h ↦ no_items limit il rs (sym (actives_none limit il r rs f) ∙ a) j s (sym (find_there stream_key j r rs (λ x. omega arith)) ∙ e)
    | same h ↦ (let g : r ≡ s = cc (find_here stream_key j r rs h) in ap (λ (x : Stream). x.items) (sym g) ∙ f)
    | more h ↦ no_items limit il rs (sym (actives_none limit il r rs f) ∙ a) j s (sym (find_there stream_key j r rs (λ x. omega arith)) ∙ e)
  ]
  | first i is f ↦ (let z : ◌≡◌ {A = ℕ} 0 1 = cc (actives_some limit il r rs i is f) in absurd (omega arith))
]

record Bare (ss : List Stream) : Type 0 where
  none_wait : waiting ss ≡ 0
  none_occupied : occupied ss ≡ 0
  no_amount : amounts ss ≡ 0

bare : (limit : ℕ) (il : Bool) (ss : List Stream) → AllGood ss → actives limit il ss ≡ [] → Bare ss
bare limit il [] g a = record { none_wait = refl; none_occupied = refl; no_amount = refl }
bare limit il (s ∷ ss) g a = elim (split s.items) [
  | empty f ↦ (let b = bare limit il ss g.1 (sym (actives_none limit il s ss f) ∙ a) in
      let x = b.none_wait in let y = b.none_occupied in let z = b.no_amount in let c = g.0.counted in
      let l : length s.items ≡ 0 = ap length f in let p : payload_bytes s.items ≡ 0 = ap payload_bytes f in let u : unsent_bytes s.items ≡ 0 = ap unsent_bytes f in
      record { none_wait = omega arith; none_occupied = omega arith; no_amount = omega arith })
  | first i is f ↦ (let z : ◌≡◌ {A = ℕ} 0 1 = cc (actives_some limit il s ss i is f) in absurd (omega arith))
]

-- ---- adding the tiny message to a calm queue without messages

-- The tiny message as it waits.
abbrev pub tiny_item : Bool → ℕ → ℕ → Item
tiny_item u n k = new_item 0 n (tiny u k)

one_byte : (u : Bool) (n k : ℕ) → unsent_bytes (tiny_item u n k ∷ []) ≡ 1
unfolding new_item
one_byte u n k = refl

-- Its stream with it.
abbrev pub with_tiny : Options → Bool → ℕ → List Stream → ℕ → Stream
with_tiny o u n ss k = with_items (at o ss k) ((at o ss k).amount + 1) ((at o ss k).items ++ (tiny_item u n k ∷ []))

pub at_good : (o : Options) (ss : List Stream) (k : ℕ) → k < 2 ^ 16 → AllGood ss → GoodStream (at o ss k)
at_good o ss k h g = elim (look_up stream_key k ss) [
  | found s e ↦ subst GoodStream (sym (at_found o ss k s e)) (every_find stream_key GoodStream k s ss g e)
  | missing e ↦ subst GoodStream (sym (at_new o ss k e)) (record { id_fits = h; opened = refl; counted = refl; good_items = tt; ordered_fits = omega arith; unordered_fits = omega arith })
]

module _ (o : Options) (il : Bool) (c : Option ℕ) (n : ℕ) (ss : List Stream) (g : GoodStreams ss) (room : 1 ≤ o.store_length) (n_fits : n < 2 ^ 32) (a : actives o.payload_limit il ss ≡ []) where
  pub at_none : (k : ℕ) → (at o ss k).items ≡ []
  at_none k = elim (look_up stream_key k ss) [
    | found s e ↦ ap (λ (x : Stream). x.items) (at_found o ss k s e) ∙ no_items o.payload_limit il ss a k s e
    | missing e ↦ ap (λ (x : Stream). x.items) (at_new o ss k e)
  ]

  with_tiny_items : (u : Bool) (k : ℕ) → (with_tiny o u n ss k).items ≡ tiny_item u n k ∷ []
  with_tiny_items u k = ap (λ (l : List Item). l ++ (tiny_item u n k ∷ [])) (at_none k)

  tiny_good_item : (u : Bool) (k : ℕ) → GoodItem (tiny_item u n k)
  unfolding new_item expiry
  tiny_good_item u k = record { unsent = omega arith; small = omega arith; lasting = refl; id_fits = n_fits; unnumbered = λ e. refl }

  with_tiny_good : (u : Bool) (k : ℕ) → k < 2 ^ 16 → GoodStream (with_tiny o u n ss k)
  with_tiny_good u k h =
      let w = at_good o ss k h g.all_good in
      let am = w.counted in
      let z : unsent_bytes (at o ss k).items ≡ 0 = ap unsent_bytes (at_none k) in
      let y : unsent_bytes (with_tiny o u n ss k).items ≡ 1 = ap unsent_bytes (with_tiny_items u k) ∙ one_byte u n k in
      record { id_fits = w.id_fits; opened = w.opened; counted = omega arith; good_items = subst GoodItems (sym (with_tiny_items u k)) (tiny_good_item u k, tt); ordered_fits = w.ordered_fits; unordered_fits = w.unordered_fits }

  -- The queue after the add.
  abbrev pub tiny_added : Bool → ℕ → Queue
  tiny_added u k = calm o il c (wrap_suc 32 n) (put_stream (with_tiny o u n ss k) ss)

  tiny_amounts : (u : Bool) (k : ℕ) → amounts ss + 1 ≡ amounts (put_stream (with_tiny o u n ss k) ss)
  tiny_amounts u k =
      let w : Stream = with_tiny o u n ss k in
      let x : amounts (put_stream w ss) + (at o ss w.id).amount ≡ amounts ss + ((at o ss k).amount + 1) = sum_put_at (λ (s : Stream). s.amount) o w ss g.rising refl in
      let y : (at o ss w.id).amount ≡ (at o ss k).amount = ap (λ (j : ℕ). (at o ss j).amount) (at_id o ss k) in
      omega arith

  starts : (k : ℕ) → k < 2 ^ 16 → (starts_waiting (at o ss k).pause_state && not (has_items (at o ss k))) ≡ true
  unfolding starts_waiting has_items some_items
  starts k h = ap₂ (λ (p : PauseState) (l : List Item). starts_waiting p && not (some_items l)) (at_good o ss k h g.all_good).opened (at_none k)

  added_calm : (u : Bool) (k : ℕ) → k < 2 ^ 16 → added 0 (tiny u k) (calm o il c n ss) ≡ tiny_added u k
  unfolding added calm
  added_calm u k h =
      let w : Stream = with_tiny o u n ss k in
      let f : ℕ → Scheduler → Queue = λ t sc. record { options = o; interleaving = il; total = t; next_message_id = wrap_suc 32 n; streams = put_stream w ss; scheduler = sc } in
      ap₂ f (tiny_amounts u k)
      (ap (λ (b : Bool). (if b then reschedule il w (calm_scheduler o il c ss) else calm_scheduler o il c ss)) (starts k h)
      ∙ reschedule_put o il c w ss g.rising (with_tiny_good u k h).good_items
      ∙ ap (λ (d : Option ℕ). calm_scheduler o il d (put_stream w ss)) (still_some w.id w.items (tiny_item u n k) [] c (with_tiny_items u k)))

  -- Only the number of streams can refuse the add.
  pub add_tiny : (u : Bool) (k : ℕ) → k < 2 ^ 16 → Calls.add o.store_length 0 (tiny u k) (calm o il c n ss) ≡ (if too_many (calm o il c n ss) k then refuse (calm o il c n ss) 6 else reply done [] (tiny_added u k))
  unfolding Calls.add calm free_bytes overflows
  add_tiny u k h =
      let b = bare o.payload_limit il ss g.all_good a in
      let x = b.none_wait in let y = b.none_occupied in let z = b.no_amount in
      let am = (at_good o ss k h g.all_good).counted in
      let c' : unsent_bytes (at o ss k).items ≡ 0 = ap unsent_bytes (at_none k) in
      let w₀ : not (eqb o.store_length o.store_length) ≡ false = ap not (eqb_true {a = o.store_length} refl) in
      let w₁ : waiting ss < max_messages = omega arith in
      let w₂ : 1 ≤ o.store_length - occupied ss = omega arith in
      let w₃ : amounts ss + 1 ≤ max_word = omega arith in
      let w₄ : (at o ss k).amount + 1 ≤ max_word = omega arith in
      let q : Queue = calm o il c n ss in
      checked_but (store_other o.store_length q ∷ time_late 0 ∷ time_late 0 ∷ payload_wrong 1 ∷ []) (messages_full q ∷ store_full q 1 ∷ (16 when overflows q (at o ss k) 1) ∷ []) 6 (too_many q k) q (reply done [] (added 0 (tiny u k) q))
      (w₀, (refl, (refl, (refl, tt)))) (leb_false w₁, (ltb_false w₂, (ap₂ ◌||◌ (ltb_false w₃) (ltb_false w₄), tt)))
      ∙ ap (λ (r : Queue). if too_many (calm o il c n ss) k then refuse (calm o il c n ss) 6 else reply done [] r) (added_calm u k h)

  -- What the tiny message shows when it is sent.
  pub tiny_head : (u : Bool) (k : ℕ) → HeadAt (put_stream (with_tiny o u n ss k) ss) k (with_tiny o u n ss k) (tiny_item u n k) []
  tiny_head u k = record { found = ap (λ (j : ℕ). find_stream j (put_stream (with_tiny o u n ss k) ss)) (sym (at_id o ss k)) ∙ find_put_same stream_key (with_tiny o u n ss k) ss; items = with_tiny_items u k }

  tiny_solo : (u : Bool) (k : ℕ) → k < 2 ^ 16 → Solo k (put_stream (with_tiny o u n ss k) ss)
  tiny_solo u k h =
      solo_list k (put_stream (with_tiny o u n ss k) ss) (good_put (with_tiny o u n ss k) ss (with_tiny_good u k h) g).rising
      (λ j s ne e. no_items o.payload_limit il ss a j s (sym (find_put_other stream_key j (with_tiny o u n ss k) ss (λ f. ne (sym f ∙ at_id o ss k))) ∙ e))

  abbrev pub tiny_fragment : Bool → ℕ → Fragment
  tiny_fragment u k = make_fragment (with_tiny o u n ss k) (numbered (at o ss k).counters (tiny_item u n k)).item (remaining (tiny_item u n k))

  pub tiny_sent : (u : Bool) (k : ℕ) → k < 2 ^ 16 → (whole o (tiny_added u k)).outcome.answer ≡ fragment (tiny_fragment u k)
  tiny_sent u k h =
      let w : Stream = with_tiny o u n ss k in
      let xs : List Stream = put_stream (with_tiny o u n ss k) ss in
      let good : GoodStreams xs = good_put w ss (with_tiny_good u k h) g in
      let hd : HeadAt xs w.id w (tiny_item u n k) [] = subst (λ (j : ℕ). HeadAt xs j w (tiny_item u n k) []) (sym (at_id o ss k)) (tiny_head u k) in
      let one : Solo w.id xs = subst (λ (j : ℕ). Solo j xs) (sym (at_id o ss k)) (tiny_solo u k h) in
      ap (λ (x : Step). x.outcome.answer) (whole_head o il c (wrap_suc 32 n) xs w (tiny_item u n k) [] good hd (solo_choice o il c (wrap_suc 32 n) xs w (tiny_item u n k) [] good hd one))

-- ---- the calls as steps, and their numbers' widths

pub step_add : (store now : ℕ) (m : Message) (q : Queue) → step (add store now m) q ≡ Calls.add store now m q
unfolding step
step_add store now m q = refl

pub step_whole : (o : Options) (q : Queue) → step (produce o.store_length 2305 262144 0 262144) q ≡ whole o q
unfolding step
step_whole o q = refl

pub typed_whole : (o : Options) → o.store_length ≤ 2000000 → Typed (produce o.store_length 2305 262144 0 262144)
typed_whole o h = omega arith

pub typed_tiny : (o : Options) (u : Bool) (k : ℕ) → o.store_length ≤ 2000000 → k < 2 ^ 16 → Typed (add o.store_length 0 (tiny u k))
typed_tiny o u k h l = (omega arith, (omega arith, record { stream_id = l; ppid = omega arith; max_retransmissions = omega arith; lifetime = omega arith; lifecycle_id = omega arith; payload = tt }))

-- A refusal is no acceptance.
verdict : Bool → Answer
verdict b = (if b then refused 6 else done)

verdict_same : (x y : Bool) → verdict x ≡ verdict y → x ≡ y
unfolding verdict
verdict_same true true e = refl
verdict_same true false e = let z : ◌≡◌ {A = ℕ} 0 1 = cc in absurd (omega arith)
verdict_same false true e = let z : ◌≡◌ {A = ℕ} 0 1 = cc in absurd (omega arith)
verdict_same false false e = refl

verdict_of : (b : Bool) (q r : Queue) → ((if b then refuse q 6 else reply done [] r)).outcome.answer ≡ verdict b
unfolding verdict
verdict_of true q r = refl
verdict_of false q r = refl

too_many_none : (q : Queue) (k : ℕ) → too_many q k ≡ true → find_stream k q.streams ≡ none
unfolding too_many is_some
too_many_none q k e = go (find_stream k q.streams) e
  where
    go : (x : Option Stream) → (not (is_some x) && leb max_streams (length q.streams)) ≡ true → x ≡ none
    go none f = refl
    go (some s) f = let z : ◌≡◌ {A = ℕ} 0 1 = cc in absurd (omega arith)

-- What a sent tiny message shows: the next message id and the counters.
shows_id : (s : Stream) (c : Counters) (n k m : ℕ) → (make_fragment s (numbered c (tiny_item false n k)).item m).message_id ≡ n
unfolding make_fragment numbered give_numbers new_item
shows_id s c n k m = refl

shows_ordered : (s : Stream) (c : Counters) (n k m : ℕ) → (make_fragment s (numbered c (tiny_item false n k)).item m).mid ≡ c.next_ordered_mid
unfolding make_fragment numbered give_numbers new_item
shows_ordered s c n k m = refl

shows_ssn : (s : Stream) (c : Counters) (n k m : ℕ) → (make_fragment s (numbered c (tiny_item false n k)).item m).ssn ≡ c.next_ssn
unfolding make_fragment numbered give_numbers new_item
shows_ssn s c n k m = refl

shows_unordered : (s : Stream) (c : Counters) (n k m : ℕ) → (make_fragment s (numbered c (tiny_item true n k)).item m).mid ≡ c.next_unordered_mid
unfolding make_fragment numbered give_numbers new_item
shows_unordered s c n k m = refl

pub counters_same : (c d : Counters) → c.next_ssn ≡ d.next_ssn → c.next_unordered_mid ≡ d.next_unordered_mid → c.next_ordered_mid ≡ d.next_ordered_mid → c ≡ d
counters_same c d x y z =
    let f : ℕ → ℕ → Counters = λ a b. record { next_ssn = a; next_unordered_mid = b; next_ordered_mid = c.next_ordered_mid } in
    let g : ℕ → Counters = λ a. record { next_ssn = d.next_ssn; next_unordered_mid = d.next_unordered_mid; next_ordered_mid = a } in
    ap₂ f x y ∙ ap g z

module _ (o : Options) (il : Bool) (room : 1 ≤ o.store_length) (store : o.store_length ≤ 2000000)
    (c₁ c₂ : Option ℕ) (n₁ n₂ : ℕ) (ss₁ ss₂ : List Stream) (g₁ : GoodStreams ss₁) (g₂ : GoodStreams ss₂) (f₁ : n₁ < 2 ^ 32) (f₂ : n₂ < 2 ^ 32)
    (a₁ : actives o.payload_limit il ss₁ ≡ []) (a₂ : actives o.payload_limit il ss₂ ≡ [])
    (ind : Indistinguishable (calm o il c₁ n₁ ss₁) (calm o il c₂ n₂ ss₂)) where
  tests_same : (k : ℕ) → k < 2 ^ 16 → too_many (calm o il c₁ n₁ ss₁) k ≡ too_many (calm o il c₂ n₂ ss₂) k
  tests_same k h =
      let c : Call = add o.store_length 0 (tiny false k) in
      let e : (step c (calm o il c₁ n₁ ss₁)).outcome ≡ (step c (calm o il c₂ n₂ ss₂)).outcome = shown (calm o il c₁ n₁ ss₁) (calm o il c₂ n₂ ss₂) ind c (typed_tiny o false k store h) in
      let e₁ : (step c (calm o il c₁ n₁ ss₁)).outcome.answer ≡ verdict (too_many (calm o il c₁ n₁ ss₁) k) =
      ap (λ (x : Step). x.outcome.answer) (step_add o.store_length 0 (tiny false k) (calm o il c₁ n₁ ss₁) ∙ add_tiny o il c₁ n₁ ss₁ g₁ room f₁ a₁ false k h)
      ∙ verdict_of (too_many (calm o il c₁ n₁ ss₁) k) (calm o il c₁ n₁ ss₁) (tiny_added o il c₁ n₁ ss₁ g₁ room f₁ a₁ false k) in
      let e₂ : (step c (calm o il c₂ n₂ ss₂)).outcome.answer ≡ verdict (too_many (calm o il c₂ n₂ ss₂) k) =
      ap (λ (x : Step). x.outcome.answer) (step_add o.store_length 0 (tiny false k) (calm o il c₂ n₂ ss₂) ∙ add_tiny o il c₂ n₂ ss₂ g₂ room f₂ a₂ false k h)
      ∙ verdict_of (too_many (calm o il c₂ n₂ ss₂) k) (calm o il c₂ n₂ ss₂) (tiny_added o il c₂ n₂ ss₂ g₂ room f₂ a₂ false k) in
      verdict_same (too_many (calm o il c₁ n₁ ss₁) k) (too_many (calm o il c₂ n₂ ss₂) k) (sym e₁ ∙ ap (λ (x : Outcome). x.answer) e ∙ e₂)

  -- The next states after an accepted add.
  next₁ : (u : Bool) (k : ℕ) → k < 2 ^ 16 → too_many (calm o il c₁ n₁ ss₁) k ≡ false → (step (add o.store_length 0 (tiny u k)) (calm o il c₁ n₁ ss₁)).next ≡ tiny_added o il c₁ n₁ ss₁ g₁ room f₁ a₁ u k
  next₁ u k h t =
      ap (λ (x : Step). x.next) (step_add o.store_length 0 (tiny u k) (calm o il c₁ n₁ ss₁) ∙ add_tiny o il c₁ n₁ ss₁ g₁ room f₁ a₁ u k h)
      ∙ ap (λ (b : Bool). ((if b then refuse (calm o il c₁ n₁ ss₁) 6 else reply done [] (tiny_added o il c₁ n₁ ss₁ g₁ room f₁ a₁ u k))).next) t

  next₂ : (u : Bool) (k : ℕ) → k < 2 ^ 16 → too_many (calm o il c₂ n₂ ss₂) k ≡ false → (step (add o.store_length 0 (tiny u k)) (calm o il c₂ n₂ ss₂)).next ≡ tiny_added o il c₂ n₂ ss₂ g₂ room f₂ a₂ u k
  next₂ u k h t =
      ap (λ (x : Step). x.next) (step_add o.store_length 0 (tiny u k) (calm o il c₂ n₂ ss₂) ∙ add_tiny o il c₂ n₂ ss₂ g₂ room f₂ a₂ u k h)
      ∙ ap (λ (b : Bool). ((if b then refuse (calm o il c₂ n₂ ss₂) 6 else reply done [] (tiny_added o il c₂ n₂ ss₂ g₂ room f₂ a₂ u k))).next) t

  fragments_same : (u : Bool) (k : ℕ) → k < 2 ^ 16 → too_many (calm o il c₁ n₁ ss₁) k ≡ false → tiny_fragment o il c₁ n₁ ss₁ g₁ room f₁ a₁ u k ≡ tiny_fragment o il c₂ n₂ ss₂ g₂ room f₂ a₂ u k
  fragments_same u k h t =
      let c : Call = add o.store_length 0 (tiny u k) in
      let d : Call = produce o.store_length 2305 262144 0 262144 in
      let r₁ : Queue = (step c (calm o il c₁ n₁ ss₁)).next in
      let r₂ : Queue = (step c (calm o il c₂ n₂ ss₂)).next in
      let i' : Indistinguishable r₁ r₂ = onward (calm o il c₁ n₁ ss₁) (calm o il c₂ n₂ ss₂) ind c (typed_tiny o u k store h) in
      let e : (step d r₁).outcome ≡ (step d r₂).outcome = shown r₁ r₂ i' d (typed_whole o store) in
      let e₁ : (step d r₁).outcome.answer ≡ fragment (tiny_fragment o il c₁ n₁ ss₁ g₁ room f₁ a₁ u k) =
      ap (λ (x : Step). x.outcome.answer) (ap (step d) (next₁ u k h t) ∙ step_whole o (tiny_added o il c₁ n₁ ss₁ g₁ room f₁ a₁ u k)) ∙ tiny_sent o il c₁ n₁ ss₁ g₁ room f₁ a₁ u k h in
      let e₂ : (step d r₂).outcome.answer ≡ fragment (tiny_fragment o il c₂ n₂ ss₂ g₂ room f₂ a₂ u k) =
      ap (λ (x : Step). x.outcome.answer) (ap (step d) (next₂ u k h (sym (tests_same k h) ∙ t)) ∙ step_whole o (tiny_added o il c₂ n₂ ss₂ g₂ room f₂ a₂ u k)) ∙ tiny_sent o il c₂ n₂ ss₂ g₂ room f₂ a₂ u k h in
      let e' : fragment (tiny_fragment o il c₁ n₁ ss₁ g₁ room f₁ a₁ u k) ≡ fragment (tiny_fragment o il c₂ n₂ ss₂ g₂ room f₂ a₂ u k) = sym e₁ ∙ ap (λ (x : Outcome). x.answer) e ∙ e₂ in
      cc

  pub empty_counters : (k : ℕ) → k < 2 ^ 16 → (at o ss₁ k).counters ≡ (at o ss₂ k).counters
  unfolding calm
  empty_counters k h = go (too_many (calm o il c₁ n₁ ss₁) k) refl
    where
      w₁ : Bool → Stream
      w₁ u = with_tiny o u n₁ ss₁ k

      w₂ : Bool → Stream
      w₂ u = with_tiny o u n₂ ss₂ k

      go : (t : Bool) → too_many (calm o il c₁ n₁ ss₁) k ≡ t → (at o ss₁ k).counters ≡ (at o ss₂ k).counters
      go true t =
          ap (λ (x : Stream). x.counters) (at_new o ss₁ k (too_many_none (calm o il c₁ n₁ ss₁) k t))
          ∙ sym (ap (λ (x : Stream). x.counters) (at_new o ss₂ k (too_many_none (calm o il c₂ n₂ ss₂) k (sym (tests_same k h) ∙ t))))
      go false t =
          let d₁ : Counters = (at o ss₁ k).counters in
          let d₂ : Counters = (at o ss₂ k).counters in
          let e : tiny_fragment o il c₁ n₁ ss₁ g₁ room f₁ a₁ false k ≡ tiny_fragment o il c₂ n₂ ss₂ g₂ room f₂ a₂ false k = fragments_same false k h t in
          let e' : tiny_fragment o il c₁ n₁ ss₁ g₁ room f₁ a₁ true k ≡ tiny_fragment o il c₂ n₂ ss₂ g₂ room f₂ a₂ true k = fragments_same true k h t in
          counters_same d₁ d₂
          (sym (shows_ssn (w₁ false) d₁ n₁ k (remaining (tiny_item false n₁ k))) ∙ ap (λ (f : Fragment). f.ssn) e ∙ shows_ssn (w₂ false) d₂ n₂ k (remaining (tiny_item false n₂ k)))
          (sym (shows_unordered (w₁ true) d₁ n₁ k (remaining (tiny_item true n₁ k))) ∙ ap (λ (f : Fragment). f.mid) e' ∙ shows_unordered (w₂ true) d₂ n₂ k (remaining (tiny_item true n₂ k)))
          (sym (shows_ordered (w₁ false) d₁ n₁ k (remaining (tiny_item false n₁ k))) ∙ ap (λ (f : Fragment). f.mid) e ∙ shows_ordered (w₂ false) d₂ n₂ k (remaining (tiny_item false n₂ k)))

  next_from : (k : ℕ) → k < 2 ^ 16 → too_many (calm o il c₁ n₁ ss₁) k ≡ false → n₁ ≡ n₂
  next_from k h t =
      sym (shows_id (with_tiny o false n₁ ss₁ k) (at o ss₁ k).counters n₁ k (remaining (tiny_item false n₁ k))) ∙ ap (λ (f : Fragment). f.message_id) (fragments_same false k h t)
      ∙ shows_id (with_tiny o false n₂ ss₂ k) (at o ss₂ k).counters n₂ k (remaining (tiny_item false n₂ k))

  pub empty_next : n₁ ≡ n₂
  unfolding calm too_many is_some find
  empty_next = go ss₁ refl
    where
      go : (xs : List Stream) → ss₁ ≡ xs → n₁ ≡ n₂
      go [] e = next_from 0 (omega arith) (ap (λ (l : List Stream). not (is_some (find_stream 0 l)) && leb max_streams (length l)) e)
      go (s ∷ xs) e =
          let k : find_stream s.id ss₁ ≡ some s = ap (find_stream s.id) e ∙ find_here stream_key s.id s xs refl in
          next_from s.id (every_find stream_key GoodStream s.id s ss₁ g₁.all_good k).id_fits (ap (λ (x : Option Stream). not (is_some x) && leb max_streams (length ss₁)) k)
