-- Two calm queues that cannot be told apart have the same counters, messages and next message id: by discarding one message after another. Assumes nothing.
use mathlib.Core.Path.{◌≡◌, refl, sym, ap, ap₂, ◌∙◌, subst}
use mathlib.Core.Bool.{Bool}
use mathlib.Core.List.{List, [], ◌∷◌, map}
use mathlib.Core.Option.{Option, none, some, get_or}
use Prim.Native.Nat.{ℕ, zero, suc, ◌+◌, ◌-◌, ◌^◌, ◌≤◌, ◌<◌}
use native.Mathlib.Omega.{arith}
use lib.ListN.{length}
use lib.Seq.{take_all}
use Rattle.queue_model.specs.Table.{find, sum_by}
use Rattle.queue_model.specs.Types.{Item, Counters, Stream, Options, Queue, Fragment, fragment, nothing_waits, Outcome, Step, remaining}
use Rattle.queue_model.specs.Streams.{find_stream, put_stream, new_stream, waiting, payload_bytes, occupied, stream_key, at}
use Rattle.queue_model.specs.Produce.{numbered}
use Rattle.queue_model.specs.Reset.{model_whole_item, reset_stream}
use Rattle.queue_model.specs.Run.{Call, produce, discard, reset, step}
use Rattle.queue_model.specs.Demands.{Typed, Indistinguishable}
use Rattle.queue_model.proofs.Tests.{less, same, more, tri}
use Rattle.queue_model.proofs.Table.{find_here, find_there, find_put_same, find_put_other, found_above, Rising, sum_put_old, empty, first, split, find_key, found, missing, look_up, Found, every_find}
use Rattle.queue_model.proofs.Streams.{at_found, at_new}
use Rattle.queue_model.proofs.Calm.Calm.{GoodStream, GoodItem, GoodStreams, good_put, calm, still, HeadAt, behead, head_good, head_items, head_amount, head_id, behead_good, behead_waiting, discard_calm}
use Rattle.queue_model.proofs.Calm.Produce.{whole, whole_nothing, whole_head, Choice, none_waits, one_waits, choose}
use Rattle.queue_model.proofs.Calm.Solo.{Solo, solo_list, solo_choice, sent, sent_waiting, handed_out_one}
use Rattle.queue_model.proofs.Calm.Reset.{reset_calm, good_reset, head_reset, solo_reset, reset_id}
use Rattle.queue_model.proofs.Calm.Empty.{shown, onward, at_none, empty_counters, empty_next, step_whole, typed_whole}
use Rattle.queue_model.proofs.Calm.Heads.{whole_fragment, shows_stream, shows_message, shows_unordered, shows_ppid, shows_retransmissions, shows_expiry, shows_fsn, shows_bytes, shows_lifecycle, shows_mid, shows_ssn, length_bytes, counters_given, counters_new, give_moves, numbered_fits, same_item}
use Rattle.queue_model.specs.Calls

-- ---- streams by id, after putting one

pub at_put_same : (o : Options) (s : Stream) (ss : List Stream) (k : ℕ) → s.id ≡ k → at o (put_stream s ss) k ≡ s
at_put_same o s ss k e = at_found o (put_stream s ss) k s (ap (λ (j : ℕ). find_stream j (put_stream s ss)) (sym e) ∙ find_put_same stream_key s ss)

pub at_put_other : (o : Options) (s : Stream) (ss : List Stream) (k : ℕ) → (s.id ≡ k → ⊥) → at o (put_stream s ss) k ≡ at o ss k
at_put_other o s ss k n = ap (λ (x : Option Stream). get_or x (new_stream o k)) (find_put_other stream_key k s ss n)

-- ---- another stream with messages, or none

pub data Others (k : ℕ) (ss : List Stream) : Type 0 where
  another : (s : Stream) (i : Item) (is : List Item) → HeadAt ss s.id s i is → (s.id ≡ k → ⊥) → Others k ss
  alone : ((j : ℕ) (s : Stream) → (j ≡ k → ⊥) → find_stream j ss ≡ some s → s.items ≡ []) → Others k ss

others_skip : (k : ℕ) (r : Stream) (rs : List Stream) → Rising stream_key (r ∷ rs) → ((r.id ≡ k → ⊥) → r.items ≡ []) → Others k rs → Others k (r ∷ rs)
others_skip k r rs a f (another s i is h n) =
    let l = found_above stream_key r.id s.id rs s a.0 h.found in
    another s i is (record { found = find_there stream_key s.id r rs (λ e. omega arith) ∙ h.found; items = h.items }) n
others_skip k r rs a f (alone h) = alone (λ j s n e. elim (tri r.id j) [
  | less l ↦ h j s n (sym (find_there stream_key j r rs (λ x. omega arith)) ∙ e)
  | same x ↦ (let g : r ≡ s = cc (find_here stream_key j r rs x) in ap (λ (y : Stream). y.items) (sym g) ∙ f (λ y. n (sym x ∙ y)))
  | more l ↦ h j s n (sym (find_there stream_key j r rs (λ x. omega arith)) ∙ e)
])

pub others : (k : ℕ) (ss : List Stream) → Rising stream_key ss → Others k ss
others k [] a = alone (λ j s n e. let f : find_stream j [] ≡ none = unfold find in refl in let z : ◌≡◌ {A = ℕ} 0 1 = cc in absurd (omega arith))
others k (r ∷ rs) a = elim (tri r.id k) [
  | less l ↦ elim (split r.items) [
    | empty e ↦ others_skip k r rs a (λ n. e) (others k rs a.1)
    | first i is e ↦ another r i is (record { found = find_here stream_key r.id r rs refl; items = e }) (λ x. omega arith)
  ]
  | same x ↦ others_skip k r rs a (λ n. absurd (n x)) (others k rs a.1)
  | more l ↦ elim (split r.items) [
    | empty e ↦ others_skip k r rs a (λ n. e) (others k rs a.1)
    | first i is e ↦ another r i is (record { found = find_here stream_key r.id r rs refl; items = e }) (λ x. omega arith)
  ]
]

-- ---- what is to be shown

-- The same counters and messages at every id, and the same next message id.
pub record Alike (o : Options) (n₁ n₂ : ℕ) (ss₁ ss₂ : List Stream) : Type 0 where
  pub next_same : n₁ ≡ n₂
  pub counters_same : (k : ℕ) → k < 2 ^ 16 → (at o ss₁ k).counters ≡ (at o ss₂ k).counters
  pub items_same : (k : ℕ) → k < 2 ^ 16 → (at o ss₁ k).items ≡ (at o ss₂ k).items

-- A state of the induction: good streams that fit, and a next message id.
pub record State (n : ℕ) (ss : List Stream) : Type 0 where
  pub good : GoodStreams ss
  pub next_fits : n < 2 ^ 32
  pub fits : occupied ss ≤ 2000000

pub occupied_sum : (ss : List Stream) → occupied ss ≡ sum_by (λ s. payload_bytes s.items) ss
occupied_sum [] = refl
occupied_sum (s ∷ ss) = ap (λ (x : ℕ). payload_bytes s.items + x) (occupied_sum ss)

payload_bytes_cons : (i : Item) (is : List Item) → payload_bytes is ≤ payload_bytes (i ∷ is)
payload_bytes_cons i is = omega arith

-- A stream put with fewer messages occupies no more.
put_fits : (s s₀ : Stream) (ss : List Stream) (i : Item) → Rising stream_key ss → find_stream s.id ss ≡ some s₀ → s₀.items ≡ i ∷ s.items → occupied (put_stream s ss) ≤ occupied ss
put_fits s s₀ ss i r e f =
    let x : sum_by (λ (y : Stream). payload_bytes y.items) (put_stream s ss) + payload_bytes s₀.items ≡ sum_by (λ (y : Stream). payload_bytes y.items) ss + payload_bytes s.items =
    sum_put_old stream_key (λ (y : Stream). payload_bytes y.items) s s₀ ss r e in
    let y : payload_bytes s₀.items ≡ payload_bytes (i ∷ s.items) = ap payload_bytes f in
    let z = payload_bytes_cons i s.items in let c = occupied_sum ss in let d = occupied_sum (put_stream s ss) in
    omega arith

step_discard : (k m : ℕ) (q : Queue) → step (discard 2305 k m) q ≡ Calls.discard 2305 k m q
unfolding step
step_discard k m q = refl

step_reset : (q : Queue) → step reset q ≡ Calls.reset q
unfolding step
step_reset q = refl

module _ (o : Options) (il : Bool) (room : 1 ≤ o.store_length) (store : o.store_length ≤ 2000000) where
  -- One head discarded on both sides.
  discarded : (c₁ c₂ : Option ℕ) (n₁ n₂ k : ℕ) (ss₁ ss₂ : List Stream) (s₁ s₂ : Stream) (i₁ i₂ : Item) (is₁ is₂ : List Item) → GoodStreams ss₁ → GoodStreams ss₂ → HeadAt ss₁ k s₁ i₁ is₁ → HeadAt ss₂ k s₂ i₂ is₂
      → i₁.message_id ≡ i₂.message_id → Indistinguishable (calm o il c₁ n₁ ss₁) (calm o il c₂ n₂ ss₂)
      → Indistinguishable (calm o il (still s₁.id is₁ c₁) n₁ (put_stream (behead s₁ i₁ is₁) ss₁)) (calm o il (still s₂.id is₂ c₂) n₂ (put_stream (behead s₂ i₂ is₂) ss₂))
  discarded c₁ c₂ n₁ n₂ k ss₁ ss₂ s₁ s₂ i₁ i₂ is₁ is₂ g₁ g₂ h₁ h₂ e ind =
      let c : Call = discard 2305 k i₁.message_id in
      let gs = head_good ss₁ k s₁ i₁ is₁ g₁ h₁ in
      let kid = head_id ss₁ k s₁ i₁ is₁ g₁ h₁ in
      let kf = gs.id_fits in
      let mf = (head_items ss₁ k s₁ i₁ is₁ g₁ h₁).0.id_fits in
      let t : Typed (discard 2305 k i₁.message_id) = (omega arith, (omega arith, mf)) in
      let x₁ : (step c (calm o il c₁ n₁ ss₁)).next ≡ calm o il (still s₁.id is₁ c₁) n₁ (put_stream (behead s₁ i₁ is₁) ss₁) =
      ap (λ (x : Step). x.next) (step_discard k i₁.message_id (calm o il c₁ n₁ ss₁)) ∙ discard_calm ss₁ k s₁ i₁ is₁ g₁ h₁ o il c₁ n₁ in
      let x₂ : (step c (calm o il c₂ n₂ ss₂)).next ≡ calm o il (still s₂.id is₂ c₂) n₂ (put_stream (behead s₂ i₂ is₂) ss₂) =
      ap (λ (x : Step). x.next) (step_discard k i₁.message_id (calm o il c₂ n₂ ss₂) ∙ ap (λ (m : ℕ). Calls.discard 2305 k m (calm o il c₂ n₂ ss₂)) e) ∙ discard_calm ss₂ k s₂ i₂ is₂ g₂ h₂ o il c₂ n₂ in
      subst (λ (q : Queue). Indistinguishable q (calm o il (still s₂.id is₂ c₂) n₂ (put_stream (behead s₂ i₂ is₂) ss₂))) x₁
      (subst (Indistinguishable (step c (calm o il c₁ n₁ ss₁)).next) x₂ (onward (calm o il c₁ n₁ ss₁) (calm o il c₂ n₂ ss₂) ind c t))

  behead_state : (n k : ℕ) (ss : List Stream) (s : Stream) (i : Item) (is : List Item) → State n ss → HeadAt ss k s i is → State n (put_stream (behead s i is) ss)
  behead_state n k ss s i is st h =
      let b = put_fits (behead s i is) s ss i st.good.rising (ap (λ (x : ℕ). find_stream x ss) (head_id ss k s i is st.good h) ∙ h.found) h.items in
      let f = st.fits in
      record { good = good_put (behead s i is) ss (behead_good ss k s i is st.good h) st.good; next_fits = st.next_fits; fits = omega arith }

  -- The whole next fragment on both sides.
  both_sent : (c₁ c₂ : Option ℕ) (n₁ n₂ : ℕ) (ss₁ ss₂ : List Stream) (s₁ s₂ : Stream) (i₁ i₂ : Item) (is₁ is₂ : List Item) → GoodStreams ss₁ → GoodStreams ss₂
      → (h₁ : (whole o (calm o il c₁ n₁ ss₁)).outcome.answer ≡ fragment (whole_fragment s₁ i₁)) → (h₂ : (whole o (calm o il c₂ n₂ ss₂)).outcome.answer ≡ fragment (whole_fragment s₂ i₂))
      → Indistinguishable (calm o il c₁ n₁ ss₁) (calm o il c₂ n₂ ss₂) → whole_fragment s₁ i₁ ≡ whole_fragment s₂ i₂
  both_sent c₁ c₂ n₁ n₂ ss₁ ss₂ s₁ s₂ i₁ i₂ is₁ is₂ g₁ g₂ h₁ h₂ ind =
      let e = shown (calm o il c₁ n₁ ss₁) (calm o il c₂ n₂ ss₂) ind (produce o.store_length 2305 262144 0 262144) (typed_whole o store) in
      let e' : fragment (whole_fragment s₁ i₁) ≡ fragment (whole_fragment s₂ i₂) =
      sym h₁ ∙ ap (λ (x : Step). x.outcome.answer) (sym (step_whole o (calm o il c₁ n₁ ss₁))) ∙ ap (λ (x : Outcome). x.answer) e ∙ ap (λ (x : Step). x.outcome.answer) (step_whole o (calm o il c₂ n₂ ss₂)) ∙ h₂ in
      cc

  -- The reset on both sides.
  both_reset : (c₁ c₂ : Option ℕ) (n₁ n₂ : ℕ) (ss₁ ss₂ : List Stream) → State n₁ ss₁ → State n₂ ss₂ → Indistinguishable (calm o il c₁ n₁ ss₁) (calm o il c₂ n₂ ss₂)
      → Indistinguishable (calm o il c₁ n₁ (map (reset_stream o.strict_restart) ss₁)) (calm o il c₂ n₂ (map (reset_stream o.strict_restart) ss₂))
  both_reset c₁ c₂ n₁ n₂ ss₁ ss₂ t₁ t₂ ind =
      let x₁ : (step reset (calm o il c₁ n₁ ss₁)).next ≡ calm o il c₁ n₁ (map (reset_stream o.strict_restart) ss₁) = ap (λ (x : Step). x.next) (step_reset (calm o il c₁ n₁ ss₁) ∙ reset_calm o il c₁ n₁ ss₁ t₁.good t₁.fits) in
      let x₂ : (step reset (calm o il c₂ n₂ ss₂)).next ≡ calm o il c₂ n₂ (map (reset_stream o.strict_restart) ss₂) = ap (λ (x : Step). x.next) (step_reset (calm o il c₂ n₂ ss₂) ∙ reset_calm o il c₂ n₂ ss₂ t₂.good t₂.fits) in
      subst (λ (q : Queue). Indistinguishable q (calm o il c₂ n₂ (map (reset_stream o.strict_restart) ss₂))) x₁
      (subst (Indistinguishable (step reset (calm o il c₁ n₁ ss₁)).next) x₂ (onward (calm o il c₁ n₁ ss₁) (calm o il c₂ n₂ ss₂) ind reset tt))

  -- One stream alone has messages, the same on both sides: its whole next fragment.
  module _ (c : Option ℕ) (n : ℕ) (ss : List Stream) (s : Stream) (i : Item) (is : List Item) (g : GoodStreams ss) (h : HeadAt ss s.id s i is) (one : Solo s.id ss) where
    solo_whole : (whole o (calm o il c n ss)).outcome.answer ≡ fragment (whole_fragment s i)
    solo_whole = ap (λ (x : Step). x.outcome.answer) (whole_head o il c n ss s i is g h (solo_choice o il c n ss s i is g h one))

    solo_next : (whole o (calm o il c n ss)).next ≡ calm o il none n (put_stream (sent s i is) ss)
    solo_next = ap (λ (x : Step). x.next) (whole_head o il c n ss s i is g h (solo_choice o il c n ss s i is g h one)) ∙ handed_out_one o il c n ss s i is g h one

    -- After stream-key a reset it shows the whole payload.
    reset_whole : (whole o (calm o il c n (map (reset_stream o.strict_restart) ss))).outcome.answer ≡ fragment (whole_fragment (reset_stream o.strict_restart s) (model_whole_item o.strict_restart i))
    reset_whole =
        let xs : List Stream = map (reset_stream o.strict_restart) ss in
        let hd : HeadAt xs (reset_stream o.strict_restart s).id (reset_stream o.strict_restart s) (model_whole_item o.strict_restart i) is = subst (λ (k : ℕ). HeadAt xs k (reset_stream o.strict_restart s) (model_whole_item o.strict_restart i) is) (reset_id o.strict_restart s) (head_reset o.strict_restart ss s.id s i is h) in
        let on : Solo (reset_stream o.strict_restart s).id xs = subst (λ (k : ℕ). Solo k xs) (reset_id o.strict_restart s) (solo_reset o.strict_restart s.id ss one) in
        ap (λ (x : Step). x.outcome.answer) (whole_head o il c n xs (reset_stream o.strict_restart s) (model_whole_item o.strict_restart i) is (good_reset o.strict_restart ss g) hd (solo_choice o il c n xs (reset_stream o.strict_restart s) (model_whole_item o.strict_restart i) is (good_reset o.strict_restart ss g) hd on))

    payload_shown : (whole_fragment (reset_stream o.strict_restart s) (model_whole_item o.strict_restart i)).bytes ≡ i.payload
    payload_shown = shows_bytes (reset_stream o.strict_restart s) (model_whole_item o.strict_restart i) ∙ take_all (length i.payload - 0) i.payload (omega arith)

    sent_good : GoodStream (sent s i is)
    sent_good =
        let gs = head_good ss s.id s i is g h in let a = head_amount ss s.id s i is g h in
        let f = numbered_fits s.counters i gs.ordered_fits gs.unordered_fits in
        record { id_fits = gs.id_fits; opened = gs.opened; counted = omega arith; good_items = (head_items ss s.id s i is g h).1; ordered_fits = f.0; unordered_fits = f.1 }

  sent_state : (c : Option ℕ) (n : ℕ) (ss : List Stream) (s : Stream) (i : Item) (is : List Item) → (st : State n ss) → (h : HeadAt ss s.id s i is) → Solo s.id ss → State n (put_stream (sent s i is) ss)
  sent_state c n ss s i is st h one =
      let b = put_fits (sent s i is) s ss i st.good.rising h.found h.items in
      let f = st.fits in
      record { good = good_put (sent s i is) ss (sent_good c n ss s i is st.good h one) st.good; next_fits = st.next_fits; fits = omega arith }

  -- Two MIDs are the same if the fragments, the counters before and the counters after are.
  mids_same : (s₁ s₂ : Stream) (i₁ i₂ : Item) → GoodStream s₁ → GoodItem i₁ → GoodItem i₂ → s₁.counters ≡ s₂.counters → whole_fragment s₁ i₁ ≡ whole_fragment s₂ i₂
      → (numbered s₁.counters i₁).counters ≡ (numbered s₂.counters i₂).counters → (i₁.mid ≡ i₂.mid) × (i₁.ssn ≡ i₂.ssn)
  mids_same s₁ s₂ i₁ i₂ gs g₁ g₂ c f a = go i₁.mid refl i₂.mid refl
    where
      go : (m₁ : Option ℕ) → i₁.mid ≡ m₁ → (m₂ : Option ℕ) → i₂.mid ≡ m₂ → (i₁.mid ≡ i₂.mid) × (i₁.ssn ≡ i₂.ssn)
      go none e₁ none e₂ = (e₁ ∙ sym e₂, g₁.unnumbered e₁ ∙ sym (g₂.unnumbered e₂))
      go none e₁ (some m₂) e₂ =
          absurd (give_moves i₁.unordered s₁.counters i₁ gs.ordered_fits gs.unordered_fits (sym (counters_new s₁.counters i₁ e₁) ∙ a ∙ counters_given s₂.counters i₂ m₂ e₂ ∙ sym c))
      go (some m₁) e₁ none e₂ =
          let e : (numbered s₁.counters i₂).counters ≡ s₁.counters = ap (λ (x : Counters). (numbered x i₂).counters) c ∙ sym a ∙ counters_given s₁.counters i₁ m₁ e₁ in
          absurd (give_moves i₂.unordered s₁.counters i₂ gs.ordered_fits gs.unordered_fits (sym (counters_new s₁.counters i₂ e₂) ∙ e))
      go (some m₁) e₁ (some m₂) e₂ =
          let e : m₁ ≡ m₂ = sym (shows_mid s₁ i₁ m₁ e₁) ∙ ap (λ (x : Fragment). x.mid) f ∙ shows_mid s₂ i₂ m₂ e₂ in
          (e₁ ∙ ap {B = Option ℕ} some e ∙ sym e₂, sym (shows_ssn s₁ i₁ m₁ e₁) ∙ ap (λ (x : Fragment). x.ssn) f ∙ shows_ssn s₂ i₂ m₂ e₂)

  -- Two heads are the same if they show the same, before and after a reset, and count the same.
  heads_same : (s₁ s₂ : Stream) (i₁ i₂ : Item) → GoodStream s₁ → GoodItem i₁ → GoodItem i₂ → s₁.counters ≡ s₂.counters → whole_fragment s₁ i₁ ≡ whole_fragment s₂ i₂
      → i₁.payload ≡ i₂.payload → (numbered s₁.counters i₁).counters ≡ (numbered s₂.counters i₂).counters → i₁ ≡ i₂
  heads_same s₁ s₂ i₁ i₂ gs g₁ g₂ c f p a =
      let m = mids_same s₁ s₂ i₁ i₂ gs g₁ g₂ c f a in
      let l : remaining i₁ ≡ remaining i₂ = sym (length_bytes s₁ i₁ g₁) ∙ ap (λ (x : Fragment). length x.bytes) f ∙ length_bytes s₂ i₂ g₂ in
      let k : length i₁.payload ≡ length i₂.payload = ap length p in
      let u₁ = g₁.unsent in let u₂ = g₂.unsent in
      same_item i₁ i₂
      (sym (shows_message s₁ i₁) ∙ ap (λ (x : Fragment). x.message_id) f ∙ shows_message s₂ i₂)
      (sym (shows_ppid s₁ i₁) ∙ ap (λ (x : Fragment). x.ppid) f ∙ shows_ppid s₂ i₂)
      (sym (shows_unordered s₁ i₁) ∙ ap (λ (x : Fragment). x.unordered) f ∙ shows_unordered s₂ i₂)
      (sym (shows_retransmissions s₁ i₁) ∙ ap (λ (x : Fragment). x.max_retransmissions) f ∙ shows_retransmissions s₂ i₂)
      (sym (shows_expiry s₁ i₁) ∙ ap (λ (x : Fragment). x.expires_at) f ∙ shows_expiry s₂ i₂)
      (sym (shows_lifecycle s₁ i₁) ∙ ap (λ (x : Fragment). x.lifecycle_id) f ∙ shows_lifecycle s₂ i₂)
      p (omega arith) m.0 m.1
      (sym (shows_fsn s₁ i₁) ∙ ap (λ (x : Fragment). x.fsn) f ∙ shows_fsn s₂ i₂)

  -- ---- one step of the induction: what holds of all queues with fewer messages holds of this one

  module _ (c₁ c₂ : Option ℕ) (n₁ n₂ : ℕ) (ss₁ ss₂ : List Stream) (t₁ : State n₁ ss₁) (t₂ : State n₂ ss₂) (ind : Indistinguishable (calm o il c₁ n₁ ss₁) (calm o il c₂ n₂ ss₂))
      (smaller : (d₁ d₂ : Option ℕ) (xs₁ xs₂ : List Stream) → State n₁ xs₁ → State n₂ xs₂ → suc (waiting xs₁) ≡ waiting ss₁ → Indistinguishable (calm o il d₁ n₁ xs₁) (calm o il d₂ n₂ xs₂) → Alike o n₁ n₂ xs₁ xs₂) where
    -- Heads of one stream with the same message id, on both sides: all else is the same.
    module _ (k : ℕ) (s₁ s₂ : Stream) (i₁ i₂ : Item) (is₁ is₂ : List Item) (h₁ : HeadAt ss₁ k s₁ i₁ is₁) (h₂ : HeadAt ss₂ k s₂ i₂ is₂) (e : i₁.message_id ≡ i₂.message_id) where
      rest_alike : Alike o n₁ n₂ (put_stream (behead s₁ i₁ is₁) ss₁) (put_stream (behead s₂ i₂ is₂) ss₂)
      rest_alike =
          smaller (still s₁.id is₁ c₁) (still s₂.id is₂ c₂) (put_stream (behead s₁ i₁ is₁) ss₁) (put_stream (behead s₂ i₂ is₂) ss₂) (behead_state n₁ k ss₁ s₁ i₁ is₁ t₁ h₁) (behead_state n₂ k ss₂ s₂ i₂ is₂ t₂ h₂)
          (behead_waiting ss₁ k s₁ i₁ is₁ t₁.good h₁) (discarded c₁ c₂ n₁ n₂ k ss₁ ss₂ s₁ s₂ i₁ i₂ is₁ is₂ t₁.good t₂.good h₁ h₂ e ind)

      id₁ : s₁.id ≡ k
      id₁ = head_id ss₁ k s₁ i₁ is₁ t₁.good h₁

      id₂ : s₂.id ≡ k
      id₂ = head_id ss₂ k s₂ i₂ is₂ t₂.good h₂

      k_fits : k < 2 ^ 16
      k_fits = subst (λ (x : ℕ). x < 2 ^ 16) id₁ (head_good ss₁ k s₁ i₁ is₁ t₁.good h₁).id_fits

      here_counters : s₁.counters ≡ s₂.counters
      here_counters =
          ap (λ (x : Stream). x.counters) (sym (at_put_same o (behead s₁ i₁ is₁) ss₁ k id₁)) ∙ rest_alike.counters_same k k_fits
          ∙ ap (λ (x : Stream). x.counters) (at_put_same o (behead s₂ i₂ is₂) ss₂ k id₂)

      here_rest : is₁ ≡ is₂
      here_rest =
          ap (λ (x : Stream). x.items) (sym (at_put_same o (behead s₁ i₁ is₁) ss₁ k id₁)) ∙ rest_alike.items_same k k_fits
          ∙ ap (λ (x : Stream). x.items) (at_put_same o (behead s₂ i₂ is₂) ss₂ k id₂)

      other_counters : (j : ℕ) → j < 2 ^ 16 → (k ≡ j → ⊥) → (at o ss₁ j).counters ≡ (at o ss₂ j).counters
      other_counters j h ne =
          ap (λ (x : Stream). x.counters) (sym (at_put_other o (behead s₁ i₁ is₁) ss₁ j (λ f. ne (sym id₁ ∙ f)))) ∙ rest_alike.counters_same j h
          ∙ ap (λ (x : Stream). x.counters) (at_put_other o (behead s₂ i₂ is₂) ss₂ j (λ f. ne (sym id₂ ∙ f)))

      other_items : (j : ℕ) → j < 2 ^ 16 → (k ≡ j → ⊥) → (at o ss₁ j).items ≡ (at o ss₂ j).items
      other_items j h ne =
          ap (λ (x : Stream). x.items) (sym (at_put_other o (behead s₁ i₁ is₁) ss₁ j (λ f. ne (sym id₁ ∙ f)))) ∙ rest_alike.items_same j h
          ∙ ap (λ (x : Stream). x.items) (at_put_other o (behead s₂ i₂ is₂) ss₂ j (λ f. ne (sym id₂ ∙ f)))

      -- With the messages of this stream the same too, all is.
      with_here : (at o ss₁ k).items ≡ (at o ss₂ k).items → Alike o n₁ n₂ ss₁ ss₂
      with_here here = record { next_same = rest_alike.next_same; counters_same = counters; items_same = items }
        where
          counters : (j : ℕ) → j < 2 ^ 16 → (at o ss₁ j).counters ≡ (at o ss₂ j).counters
          counters j h = elim (tri k j) [
            | less l ↦ other_counters j h (λ f. omega arith)
            | same f ↦ subst (λ (x : ℕ). (at o ss₁ x).counters ≡ (at o ss₂ x).counters) f
                (ap (λ (x : Stream). x.counters) (at_found o ss₁ k s₁ h₁.found) ∙ here_counters ∙ sym (ap (λ (x : Stream). x.counters) (at_found o ss₂ k s₂ h₂.found)))
            | more l ↦ other_counters j h (λ f. omega arith)
          ]

          items : (j : ℕ) → j < 2 ^ 16 → (at o ss₁ j).items ≡ (at o ss₂ j).items
          items j h = elim (tri k j) [
            | less l ↦ other_items j h (λ f. omega arith)
            | same f ↦ subst (λ (x : ℕ). (at o ss₁ x).items ≡ (at o ss₂ x).items) f here
            | more l ↦ other_items j h (λ f. omega arith)
          ]

    -- The chosen heads, which show the same.
    module _ (s₁ s₂ : Stream) (i₁ i₂ : Item) (is₁ is₂ : List Item) (h₁ : HeadAt ss₁ s₁.id s₁ i₁ is₁) (h₂ : HeadAt ss₂ s₁.id s₂ i₂ is₂) (same_id : s₂.id ≡ s₁.id) (f : whole_fragment s₁ i₁ ≡ whole_fragment s₂ i₂) where
      e : i₁.message_id ≡ i₂.message_id
      e = sym (shows_message s₁ i₁) ∙ ap (λ (x : Fragment). x.message_id) f ∙ shows_message s₂ i₂

      k : ℕ
      k = s₁.id

      -- Another stream has messages: discarding its head leaves this one's to compare.
      by_another : (t : Stream) (j : Item) (js : List Item) → HeadAt ss₁ t.id t j js → (t.id ≡ s₁.id → ⊥) → (at o ss₁ s₁.id).items ≡ (at o ss₂ s₁.id).items
      by_another t j js ht ne = go (look_up stream_key t.id ss₂)
        where
          fit : t.id < 2 ^ 16
          fit = (head_good ss₁ t.id t j js t₁.good ht).id_fits

          there : (at o ss₂ t.id).items ≡ j ∷ js
          there =
              sym (other_items s₁.id s₁ s₂ i₁ i₂ is₁ is₂ h₁ h₂ e t.id fit (λ x. ne (sym x)))
              ∙ ap (λ (x : Stream). x.items) (at_found o ss₁ t.id t ht.found) ∙ ht.items

          go : Found stream_key t.id ss₂ → (at o ss₁ s₁.id).items ≡ (at o ss₂ s₁.id).items
          go (found u eu) =
              let hu : HeadAt ss₂ t.id u j js = record { found = eu; items = ap (λ (x : Stream). x.items) (sym (at_found o ss₂ t.id u eu)) ∙ there } in
              other_items t.id t u j j js js ht hu refl s₁.id (k_fits s₁.id s₁ s₂ i₁ i₂ is₁ is₂ h₁ h₂ e) ne
          go (missing eu) =
              let v : [] ≡ j ∷ js = ap (λ (x : Stream). x.items) (sym (at_new o ss₂ t.id eu)) ∙ there in
              let z : ◌≡◌ {A = ℕ} 0 1 = cc in absurd (omega arith)

      -- No other stream has messages: send the head, and reset and send it.
      module _ (lone : (j : ℕ) (s : Stream) → (j ≡ s₁.id → ⊥) → find_stream j ss₁ ≡ some s → s.items ≡ []) where
        one₁ : Solo s₁.id ss₁
        one₁ = solo_list s₁.id ss₁ t₁.good.rising lone

        none₁ : (j : ℕ) → (j ≡ s₁.id → ⊥) → (at o ss₁ j).items ≡ []
        none₁ j ne = elim (look_up stream_key j ss₁) [
          | found u eu ↦ ap (λ (x : Stream). x.items) (at_found o ss₁ j u eu) ∙ lone j u ne eu
          | missing eu ↦ ap (λ (x : Stream). x.items) (at_new o ss₁ j eu)
        ]

        one₂' : Solo s₁.id ss₂
        one₂' = solo_list s₁.id ss₂ t₂.good.rising (λ j u ne eu.
            let fit : j < 2 ^ 16 = subst (λ (x : ℕ). x < 2 ^ 16) (find_key stream_key j ss₂ u eu) (every_find stream_key GoodStream j u ss₂ t₂.good.all_good eu).id_fits in
            ap (λ (x : Stream). x.items) (sym (at_found o ss₂ j u eu)) ∙ sym (other_items s₁.id s₁ s₂ i₁ i₂ is₁ is₂ h₁ h₂ e j fit (λ x. ne (sym x))) ∙ none₁ j ne)

        one₂ : Solo s₂.id ss₂
        one₂ = subst (λ (x : ℕ). Solo x ss₂) (sym same_id) one₂'

        h₂' : HeadAt ss₂ s₂.id s₂ i₂ is₂
        h₂' = subst (λ (x : ℕ). HeadAt ss₂ x s₂ i₂ is₂) (sym same_id) h₂

        sent_alike : Alike o n₁ n₂ (put_stream (sent s₁ i₁ is₁) ss₁) (put_stream (sent s₂ i₂ is₂) ss₂)
        sent_alike =
            let c : Call = produce o.store_length 2305 262144 0 262144 in
            let x₁ : (step c (calm o il c₁ n₁ ss₁)).next ≡ calm o il none n₁ (put_stream (sent s₁ i₁ is₁) ss₁) = ap (λ (x : Step). x.next) (step_whole o (calm o il c₁ n₁ ss₁)) ∙ solo_next c₁ n₁ ss₁ s₁ i₁ is₁ t₁.good h₁ one₁ in
            let x₂ : (step c (calm o il c₂ n₂ ss₂)).next ≡ calm o il none n₂ (put_stream (sent s₂ i₂ is₂) ss₂) = ap (λ (x : Step). x.next) (step_whole o (calm o il c₂ n₂ ss₂)) ∙ solo_next c₂ n₂ ss₂ s₂ i₂ is₂ t₂.good h₂' one₂ in
            smaller none none (put_stream (sent s₁ i₁ is₁) ss₁) (put_stream (sent s₂ i₂ is₂) ss₂) (sent_state c₁ n₁ ss₁ s₁ i₁ is₁ t₁ h₁ one₁) (sent_state c₂ n₂ ss₂ s₂ i₂ is₂ t₂ h₂' one₂)
            (sent_waiting o il c₁ n₁ ss₁ s₁ i₁ is₁ t₁.good h₁ one₁)
            (subst (λ (q : Queue). Indistinguishable q (calm o il none n₂ (put_stream (sent s₂ i₂ is₂) ss₂))) x₁
            (subst (Indistinguishable (step c (calm o il c₁ n₁ ss₁)).next) x₂ (onward (calm o il c₁ n₁ ss₁) (calm o il c₂ n₂ ss₂) ind c (typed_whole o store))))

        sent_counters : (numbered s₁.counters i₁).counters ≡ (numbered s₂.counters i₂).counters
        sent_counters =
            ap (λ (x : Stream). x.counters) (sym (at_put_same o (sent s₁ i₁ is₁) ss₁ s₁.id refl)) ∙ sent_alike.counters_same s₁.id (k_fits s₁.id s₁ s₂ i₁ i₂ is₁ is₂ h₁ h₂ e)
            ∙ ap (λ (x : Stream). x.counters) (at_put_same o (sent s₂ i₂ is₂) ss₂ s₁.id same_id)

        payloads : i₁.payload ≡ i₂.payload
        payloads =
            sym (payload_shown c₁ n₁ ss₁ s₁ i₁ is₁ t₁.good h₁ one₁)
            ∙ ap (λ (x : Fragment). x.bytes) (both_sent c₁ c₂ n₁ n₂ (map (reset_stream o.strict_restart) ss₁) (map (reset_stream o.strict_restart) ss₂) (reset_stream o.strict_restart s₁) (reset_stream o.strict_restart s₂) (model_whole_item o.strict_restart i₁) (model_whole_item o.strict_restart i₂) is₁ is₂ (good_reset o.strict_restart ss₁ t₁.good) (good_reset o.strict_restart ss₂ t₂.good)
            (reset_whole c₁ n₁ ss₁ s₁ i₁ is₁ t₁.good h₁ one₁) (reset_whole c₂ n₂ ss₂ s₂ i₂ is₂ t₂.good h₂' one₂) (both_reset c₁ c₂ n₁ n₂ ss₁ ss₂ t₁ t₂ ind))
            ∙ payload_shown c₂ n₂ ss₂ s₂ i₂ is₂ t₂.good h₂' one₂

        by_sending : (at o ss₁ s₁.id).items ≡ (at o ss₂ s₁.id).items
        by_sending =
            let hs : i₁ ≡ i₂ = heads_same s₁ s₂ i₁ i₂ (head_good ss₁ s₁.id s₁ i₁ is₁ t₁.good h₁) (head_items ss₁ s₁.id s₁ i₁ is₁ t₁.good h₁).0 (head_items ss₂ s₁.id s₂ i₂ is₂ t₂.good h₂).0
            (here_counters s₁.id s₁ s₂ i₁ i₂ is₁ is₂ h₁ h₂ e) f payloads sent_counters in
            ap (λ (x : Stream). x.items) (at_found o ss₁ s₁.id s₁ h₁.found) ∙ h₁.items
            ∙ ap₂ ◌∷◌ hs (here_rest s₁.id s₁ s₂ i₁ i₂ is₁ is₂ h₁ h₂ e)
            ∙ sym (ap (λ (x : Stream). x.items) (at_found o ss₂ s₁.id s₂ h₂.found) ∙ h₂.items)

      chosen_alike : Alike o n₁ n₂ ss₁ ss₂
      chosen_alike = with_here s₁.id s₁ s₂ i₁ i₂ is₁ is₂ h₁ h₂ e (go (others s₁.id ss₁ t₁.good.rising))
        where
          go : Others s₁.id ss₁ → (at o ss₁ s₁.id).items ≡ (at o ss₂ s₁.id).items
          go (another t j js ht ne) = by_another t j js ht ne
          go (alone lone) = by_sending lone

    -- The step.
    step_alike : Alike o n₁ n₂ ss₁ ss₂
    step_alike = go (choose o.payload_limit il c₁ ss₁ t₁.good.rising) (choose o.payload_limit il c₂ ss₂ t₂.good.rising)
      where
        outs : (whole o (calm o il c₁ n₁ ss₁)).outcome.answer ≡ (whole o (calm o il c₂ n₂ ss₂)).outcome.answer
        outs =
            ap (λ (x : Step). x.outcome.answer) (sym (step_whole o (calm o il c₁ n₁ ss₁)))
            ∙ ap (λ (x : Outcome). x.answer) (shown (calm o il c₁ n₁ ss₁) (calm o il c₂ n₂ ss₂) ind (produce o.store_length 2305 262144 0 262144) (typed_whole o store))
            ∙ ap (λ (x : Step). x.outcome.answer) (step_whole o (calm o il c₂ n₂ ss₂))

        go : Choice o.payload_limit il c₁ ss₁ → Choice o.payload_limit il c₂ ss₂ → Alike o n₁ n₂ ss₁ ss₂
        go (none_waits e₁ a₁) (none_waits e₂ a₂) =
            record {
              next_same = empty_next o il room store c₁ c₂ n₁ n₂ ss₁ ss₂ t₁.good t₂.good t₁.next_fits t₂.next_fits a₁ a₂ ind;
              counters_same = empty_counters o il room store c₁ c₂ n₁ n₂ ss₁ ss₂ t₁.good t₂.good t₁.next_fits t₂.next_fits a₁ a₂ ind;
              items_same = λ k h. at_none o il c₁ n₁ ss₁ t₁.good room t₁.next_fits a₁ k ∙ sym (at_none o il c₂ n₂ ss₂ t₂.good room t₂.next_fits a₂ k);
            }
        go (none_waits e₁ a₁) (one_waits s₂ i₂ is₂ h₂ e₂) =
            let x : nothing_waits ≡ fragment (whole_fragment s₂ i₂) =
            ap (λ (x : Step). x.outcome.answer) (sym (whole_nothing o il c₁ n₁ ss₁ e₁)) ∙ outs ∙ ap (λ (x : Step). x.outcome.answer) (whole_head o il c₂ n₂ ss₂ s₂ i₂ is₂ t₂.good h₂ e₂) in
            let z : ◌≡◌ {A = ℕ} 0 1 = cc in absurd (omega arith)
        go (one_waits s₁ i₁ is₁ h₁ e₁) (none_waits e₂ a₂) =
            let x : fragment (whole_fragment s₁ i₁) ≡ nothing_waits =
            ap (λ (x : Step). x.outcome.answer) (sym (whole_head o il c₁ n₁ ss₁ s₁ i₁ is₁ t₁.good h₁ e₁)) ∙ outs ∙ ap (λ (x : Step). x.outcome.answer) (whole_nothing o il c₂ n₂ ss₂ e₂) in
            let z : ◌≡◌ {A = ℕ} 0 1 = cc in absurd (omega arith)
        go (one_waits s₁ i₁ is₁ h₁ e₁) (one_waits s₂ i₂ is₂ h₂ e₂) =
            let f : whole_fragment s₁ i₁ ≡ whole_fragment s₂ i₂ =
            both_sent c₁ c₂ n₁ n₂ ss₁ ss₂ s₁ s₂ i₁ i₂ is₁ is₂ t₁.good t₂.good (ap (λ (x : Step). x.outcome.answer) (whole_head o il c₁ n₁ ss₁ s₁ i₁ is₁ t₁.good h₁ e₁))
            (ap (λ (x : Step). x.outcome.answer) (whole_head o il c₂ n₂ ss₂ s₂ i₂ is₂ t₂.good h₂ e₂)) ind in
            let si : s₂.id ≡ s₁.id = sym (shows_stream s₂ i₂) ∙ ap (λ (x : Fragment). x.stream_id) (sym f) ∙ shows_stream s₁ i₁ in
            chosen_alike s₁ s₂ i₁ i₂ is₁ is₂ h₁ (subst (λ (x : ℕ). HeadAt ss₂ x s₂ i₂ is₂) si h₂) si f

  -- Two calm queues that cannot be told apart are alike.
  pub peel : (N : ℕ) (c₁ c₂ : Option ℕ) (n₁ n₂ : ℕ) (ss₁ ss₂ : List Stream) → State n₁ ss₁ → State n₂ ss₂ → waiting ss₁ ≤ N → Indistinguishable (calm o il c₁ n₁ ss₁) (calm o il c₂ n₂ ss₂) → Alike o n₁ n₂ ss₁ ss₂
  peel zero c₁ c₂ n₁ n₂ ss₁ ss₂ t₁ t₂ h ind = step_alike c₁ c₂ n₁ n₂ ss₁ ss₂ t₁ t₂ ind (λ d₁ d₂ xs₁ xs₂ u₁ u₂ w i. absurd (omega arith))
  peel (suc N) c₁ c₂ n₁ n₂ ss₁ ss₂ t₁ t₂ h ind = step_alike c₁ c₂ n₁ n₂ ss₁ ss₂ t₁ t₂ ind (λ d₁ d₂ xs₁ xs₂ u₁ u₂ w i. peel N d₁ d₂ n₁ n₂ xs₁ xs₂ u₁ u₂ (omega arith) i)
