-- A fragment has at most as many bytes as are asked for, on any words at all. Assumes nothing.
use mathlib.Core.Path.{◌≡◌, refl, subst}
use mathlib.Core.Bool.{Bool, true, false}
use mathlib.Core.List.{List}
use Prim.Native.Nat.{ℕ, zero, suc, ◌≤◌}
use native.Mathlib.Omega.{arith}
use borrow.Author.Tests.{ltb-true}
use lib.Dec.{ltb}
use lib.ListN.{length}
use Rattle.queue_words.specs.Flags.{pick}
use Rattle.queue_words.specs.Active.{active_at}
use Rattle.queue_words.specs.Header.{totals_at}
use Rattle.queue_words.specs.Items.{item_at}
use Rattle.queue_words.specs.Streams.{stream_at_words}
use Rattle.queue_words.specs.declared.items.Item.{Item}
use Rattle.queue_words.specs.declared.streams.OutgoingStream.{OutgoingStream}
use Rattle.queue_streams.specs.Call.{Call}
use Rattle.queue_streams.specs.Call as call
use Rattle.queue_sending.specs.Choice.{look_ahead}
use Rattle.queue_sending.specs.Data.{data_to_send, ProducedWith, produced_with, refused_with}
use Rattle.queue_sending.specs.Fragment.{least_of, send_code, sent, handed_out_words}
use Rattle.queue_sending.specs.Numbers.{numbered_item}
use Rattle.queue_sending.specs.Produce.{expired_dropped, after_look, after_drop, pass_over_words, settled_as, past_from, produced_past, produced_after}
use Rattle.queue_sending.specs.Look.{Look}
use Rattle.queue_sending.specs.Look as look
use Rattle.queue_sending.specs.declared.data.DataToSend.{DataToSend}
use Rattle.queue_sending.specs.Produced.{Produced}
use Rattle.queue_sending.specs.Produced as produced

pub record Within (size : ℕ) (p : ProducedWith) : Type 0 where
  pub within : (j : ℕ) (d : DataToSend) → p.answer ≡ produced.Fragment j d → d.«data».length ≤ size

least_most : (a b : ℕ) → least_of a b ≤ b
unfolding least_of
least_most a b = go (ltb a b) refl
  where
    go : (t : Bool) → ltb a b ≡ t → pick t a b ≤ b
    go true e = let h = ltb-true a b e in omega arith
    go false e = omega arith

refused_within : (size code : ℕ) (ws es bs : List ℕ) → Within size (refused_with code ws es bs)
refused_within size code ws es bs = record { within = λ j d e. let z : ◌≡◌ {A = ℕ} 0 1 = cc in absurd (omega arith) }

pick_within : (size : ℕ) (b : Bool) (p q : ProducedWith) → Within size p → Within size q → Within size (pick b p q)
pick_within size true p q x y = x
pick_within size false p q x y = y

fragment_within : (size k id n : ℕ) (m : Item) (ws es bs : List ℕ) → n ≤ size → Within size (produced_with (produced.Fragment k (data_to_send id m n)) ws es bs)
unfolding data_to_send
fragment_within size k id n m ws es bs h = record { within = λ j d e. let z : data_to_send id m n ≡ d = cc in subst (λ (x : DataToSend). x.«data».length ≤ size) z h }

sent_within : (size : ℕ) (ws st es bs : List ℕ) (k at id row : ℕ) (s : OutgoingStream) (m : Item) (n : ℕ) → n ≤ size → Within size (sent ws st es bs k at id row s m n)
unfolding sent
sent_within size ws st es bs k at id row s m n h =
    pick_within size (ltb 0 (send_code ws (length st) s m n (length bs))) _ _ (refused_within size (send_code ws (length st) s m n (length bs)) ws es bs) (fragment_within size _ id n (numbered_item s m) _ _ _ h)

hand_within : (ws st es bs : List ℕ) (size k at id row : ℕ) → Within size (handed_out_words ws st es bs size k at id row)
unfolding handed_out_words
hand_within ws st es bs size k at id row =
    pick_within size (ltb 2303 k) _ _ (refused_within size 16 ws es bs)
    (pick_within size (ltb 255 at) _ _ (refused_within size 16 ws es bs)
    (pick_within size (ltb 255 row) _ _ (refused_within size 16 ws es bs)
    (pick_within size (ltb 1023 (stream_at_words ws row).first) _ _ (refused_within size 16 ws es bs)
    (sent_within size ws st es bs k at id row (stream_at_words ws row) (item_at ws (stream_at_words ws row).first) (least_of (active_at ws at).bytes_remaining size) (least_most (active_at ws at).bytes_remaining size)))))

nothing_within : (size k : ℕ) (ws es bs : List ℕ) → Within size (produced_with (produced.Nothing k) ws es bs)
nothing_within size k ws es bs = record { within = λ j d e. let z : ◌≡◌ {A = ℕ} 0 1 = cc in absurd (omega arith) }

look_within : (expired : ℕ → ℕ → ProducedWith) (ws st es bs : List ℕ) (size k : ℕ) → ((id row : ℕ) → Within size (expired id row)) → (l : Look) → Within size (after_look expired ws st es bs size k l)
look_within expired ws st es bs size k h look.Nothing = pick_within size (ltb 2305 k) _ _ (refused_within size 16 ws es bs) (nothing_within size k ws es bs)
look_within expired ws st es bs size k h look.Broken = refused_within size 16 ws es bs
look_within expired ws st es bs size k h (look.Expired id row) = h id row
look_within expired ws st es bs size k h (look.Chosen at id row) = hand_within ws st es bs size k at id row

drop_within : (again : List ℕ → List ℕ → ℕ → ProducedWith) (size : ℕ) (ws es bs : List ℕ) → ((l v : List ℕ) (j : ℕ) → Within size (again l v j)) → (d : Call) → Within size (after_drop again ws es bs d)
drop_within again size ws es bs h (call.Accepted j) = h ws es j
drop_within again size ws es bs h (call.Refused code) = refused_within size code ws es bs

pass_within : (n : ℕ) (ws st es bs : List ℕ) (time size k : ℕ) → Within size (pass_over_words n ws st es bs time size k)
unfolding pass_over_words
pass_within zero ws st es bs time size k = look_within _ ws st es bs size k (λ id row. refused_within size 16 ws es bs) (look_ahead ws time)
pass_within (suc n) ws st es bs time size k =
    look_within _ ws st es bs size k
    (λ id row. drop_within (λ (l v : List ℕ) (j : ℕ). pass_over_words n l st v bs time size j) size (expired_dropped ws es k id row).next (expired_dropped ws es k id row).events bs
    (λ l v j. pass_within n l st v bs time size j) (expired_dropped ws es k id row).answer)
    (look_ahead ws time)

past_within : (ws st es bs : List ℕ) (time size k : ℕ) → Within size (produced_past ws st es bs time size k)
unfolding produced_past past_from
past_within ws st es bs time size k =
    pick_within size (ltb 1024 (totals_at ws).waiting) _ _ (refused_within size 16 ws es bs)
    (by (pass_over_words (totals_at ws).waiting ws st es bs time size k).answer (pass_within (totals_at ws).waiting ws st es bs time size k))
  where
    p : ProducedWith
    p = pass_over_words (totals_at ws).waiting ws st es bs time size k

    by : (r : Produced) → Within size p → Within size (settled_as ws es bs p r)
    by (produced.Nothing j) f = f
    by (produced.Fragment j d) f = f
    by (produced.Refused code) f = refused_within size code ws es bs

pub after_within : (ws st es bs : List ℕ) (time size k : ℕ) → Within size (produced_after ws st es bs time size k)
unfolding produced_after
after_within ws st es bs time size k = look_within _ ws st es bs size k (λ id row. past_within ws st es bs time size k) (look_ahead ws time)
