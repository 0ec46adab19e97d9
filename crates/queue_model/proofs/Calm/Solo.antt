-- A calm queue in which one stream alone has messages stays calm when its head is handed out whole. Assumes nothing.
use mathlib.Core.Path.{◌≡◌, refl, sym, ap, ◌∙◌, subst}
use mathlib.Core.Bool.{Bool, true, false}
use mathlib.Core.List.{List, [], ◌∷◌, ◌++◌, append-nil}
use mathlib.Core.Option.{Option, none, some}
use Prim.Native.Nat.{ℕ, suc, ◌+◌, ◌-◌, ◌≤◌}
use native.Mathlib.Omega.{arith}
use lib.ListN.{length}
use Rattle.std.specs.Prelude.{if◌then◌else◌}
use Rattle.queue_model.specs.Table.{sum_by}
use Rattle.queue_model.specs.Types.{Item, PauseState, not_paused, Stream, Weight, Active, Scheduler, Options, Queue, remaining, with_items, model_with_pause, with_counters, with_state}
use Rattle.queue_model.specs.Scheduler.{scheduled, forget, rest_time, remove_stream, set_bytes_remaining, moved, least, least_of, remembered, or_else, accept_last, accept_part, accept, active_key}
use Rattle.queue_model.specs.Streams.{find_stream, put_stream, weight_of, head_size, reschedule, waiting, amounts, stream_key}
use Rattle.queue_model.specs.Produce.{numbered, end_pending, next_size, handed_out_last, handed_out_part, handed_out}
use Rattle.queue_model.proofs.Tests.{leb_true, eqb_true, less, same, more, tri}
use Rattle.queue_model.proofs.Table.{find_here, find_there, find_nil, own, other, is_own, found_above, put_later, put_here, put_before, put_end, After, Rising, after_down, sum_put_old, without_here, without_nil, put_found}
use Rattle.queue_model.proofs.Scheduler.{reschedule_of}
use Rattle.queue_model.proofs.Calm.Entries.{entry, entries, actives, actives_none}
use Rattle.queue_model.proofs.Calm.Calm.{GoodStreams, calm_scheduler, calm, reschedule_put, HeadAt, head_good, head_items, head_amount, head_total, same_active, still_none}
use Rattle.queue_model.proofs.Calm.Produce.{choice}
use Rattle.queue_model.proofs.Streams.{head_size_cons}

-- Only the stream k has messages.
abbrev pub Solo : ℕ → List Stream → Type 0
Solo k [] = Unit {0}
Solo k (r ∷ rs) = ((r.id ≡ k → ⊥) → r.items ≡ []) × Solo k rs

-- From what is found in a rising list to what stands in it.
pub solo_list : (k : ℕ) (ss : List Stream) → Rising stream_key ss → ((j : ℕ) (s : Stream) → (j ≡ k → ⊥) → find_stream j ss ≡ some s → s.items ≡ []) → Solo k ss
solo_list k [] a f = tt
solo_list k (r ∷ rs) a f = (
  (λ n. f r.id r n (find_here stream_key r.id r rs refl)),
  solo_list k rs a.1 (λ j s n e. let l = found_above stream_key r.id j rs s a.0 e in f j s n (find_there stream_key j r rs (λ g. omega arith) ∙ e)),
)

module _ (limit : ℕ) (il : Bool) where
  solo_after : (k : ℕ) (ss : List Stream) → After stream_key k ss → Solo k ss → actives limit il ss ≡ []
  solo_after k [] a s = refl
  solo_after k (r ∷ rs) a s = let l = a.0 in actives_none limit il r rs (s.0 (λ e. omega arith)) ∙ solo_after k rs a.1 s.1

  pub solo_actives : (s : Stream) (ss : List Stream) → Rising stream_key ss → Solo s.id ss → actives limit il (put_stream s ss) ≡ entries limit il s s.items
  solo_actives s [] a b = ap (actives limit il) (put_end stream_key s) ∙ append-nil (entries limit il s s.items)
  solo_actives s (r ∷ rs) a b = elim (tri r.id s.id) [
    | less h ↦ ap (actives limit il) (put_later stream_key s r rs h) ∙ actives_none limit il r (put_stream s rs) (b.0 (λ e. omega arith)) ∙ solo_actives s rs a.1 b.1
    | same e ↦ ap (actives limit il) (put_here stream_key s r rs e) ∙ ap (λ (l : List Active). entries limit il s s.items ++ l) (solo_after s.id rs (subst (λ (k : ℕ). After stream_key k rs) e a.0) b.1) ∙ append-nil (entries limit il s s.items)
    | more h ↦ ap (actives limit il) (put_before stream_key s r rs h) ∙ ap (λ (l : List Active). entries limit il s s.items ++ l) (solo_after s.id (r ∷ rs) (h, after_down stream_key rs h a.0) b) ∙ append-nil (entries limit il s s.items)
  ]

-- ---- handing out the head of the one stream

-- The stream after its head was handed out whole.
abbrev pub sent : Stream → Item → List Item → Stream
sent s i is = with_items (with_counters (numbered s.counters i).counters s) (s.amount - remaining i) is

-- A last fragment of the only entry leaves none.
remove_last : (limit k t : ℕ) (x : Active) → x.stream_id ≡ k → remove_stream k (record { payload_limit = limit; current = some k; system_time = t; active = x ∷ [] }) ≡ record { payload_limit = limit; current = none; system_time = 0; active = [] }
unfolding remove_stream forget rest_time
remove_last limit k t x e =
    let f : List Active → Scheduler = λ l. record { payload_limit = limit; current = forget k (some k); system_time = rest_time t l; active = l } in
    let c : Option ℕ → Scheduler = λ y. record { payload_limit = limit; current = y; system_time = 0; active = [] } in
    ap f (without_here active_key k x [] e ∙ without_nil active_key k)
    ∙ ap c (ap (λ (b : Bool). (if b then none else some k)) (eqb_true {a = k} refl))

pub accept_whole : (a : Active) (m : ℕ) (sc : Scheduler) → a.bytes_remaining ≤ m → accept a m sc ≡ accept_last a m sc
unfolding accept
accept_whole a m sc h = ap (λ (b : Bool). (if b then accept_last a m sc else accept_part a m sc)) (leb_true h)

accept_last_of : (a : Active) (m : ℕ) (sc : Scheduler) → accept_last a m sc ≡ remove_stream a.stream_id (record { payload_limit = sc.payload_limit; current = some a.stream_id; system_time = moved a m; active = sc.active })
unfolding accept_last
accept_last_of a m sc = refl

weight_same : (il : Bool) (s t : Stream) → s.priority ≡ t.priority → weight_of il s ≡ weight_of il t
unfolding weight_of
weight_same true s t e = ap Weight.weighted e
weight_same false s t e = refl

handed_out_whole : (q : Queue) (a : Active) (s : Stream) (i : Item) (is : List Item) → handed_out q a s i is (remaining i) ≡ handed_out_last q a s i is (remaining i)
unfolding handed_out
handed_out_whole q a s i is =
    ap (λ (b : Bool). (if b then handed_out_last q a s i is (remaining i) else handed_out_part q a s i is (remaining i))) (eqb_true {a = remaining i} refl)

-- The queue after a last fragment, as a function of the state that the stream ends in.
last_in : PauseState → Queue → Active → Stream → Item → List Item → ℕ → Queue
last_in p q a s i is n =
    with_state q (q.total - n) (put_stream (model_with_pause p (with_items (with_counters (numbered s.counters i).counters s) (s.amount - n) is)) q.streams)
    (set_bytes_remaining s.id (next_size p is) (weight_of q.interleaving s) (accept a n q.scheduler))

end_open : end_pending not_paused ≡ not_paused
unfolding end_pending
end_open = refl

handed_out_last_of : (q : Queue) (a : Active) (s : Stream) (i : Item) (is : List Item) (n : ℕ) → handed_out_last q a s i is n ≡ last_in (end_pending s.pause_state) q a s i is n
unfolding handed_out_last last_in
handed_out_last_of q a s i is n = refl

-- The only entry is chosen, whatever is remembered.
choice_one : (c : Option ℕ) (a : Active) → choice c (a ∷ []) ≡ some a
unfolding choice least_of least or_else remembered
choice_one none a = refl
choice_one (some k) a = elim (is_own active_key a k) [
  | own e ↦ ap (λ (x : Option Active). or_else x (some a)) (find_here active_key k a [] e)
  | other n ↦ ap (λ (x : Option Active). or_else x (some a)) (find_there active_key k a [] n ∙ find_nil active_key k)
]

module _ (o : Options) (il : Bool) (c : Option ℕ) (n : ℕ) (ss : List Stream) (s : Stream) (i : Item) (is : List Item) (g : GoodStreams ss) (h : HeadAt ss s.id s i is) (one : Solo s.id ss) where
  one_active : actives o.payload_limit il ss ≡ entry o.payload_limit il s ∷ []
  one_active =
      ap (actives o.payload_limit il) (sym (put_found stream_key s ss g.rising h.found)) ∙ solo_actives o.payload_limit il s ss g.rising one
      ∙ ap (entries o.payload_limit il s) h.items

  pub solo_choice : choice c (actives o.payload_limit il ss) ≡ some (entry o.payload_limit il s)
  solo_choice = ap (choice c) one_active ∙ choice_one c (entry o.payload_limit il s)

  accept_one : accept (entry o.payload_limit il s) (remaining i) (calm o il c n ss).scheduler ≡ calm_scheduler o il none []
  unfolding calm calm_scheduler scheduled
  accept_one =
      let a : Active = entry o.payload_limit il s in
      let b : head_size s.items ≡ remaining i = ap head_size h.items ∙ head_size_cons i is in
      let f : List Active → Scheduler = λ l. remove_stream s.id (record { payload_limit = o.payload_limit; current = some s.id; system_time = moved a (remaining i); active = l }) in
      accept_whole a (remaining i) (calm_scheduler o il c ss) (omega arith) ∙ accept_last_of a (remaining i) (calm_scheduler o il c ss)
      ∙ ap f one_active ∙ remove_last o.payload_limit s.id (moved a (remaining i)) a refl

  sent_amounts : amounts (put_stream (sent s i is) ss) ≡ amounts ss - remaining i
  sent_amounts =
      let e : sum_by (λ (x : Stream). x.amount) (put_stream (sent s i is) ss) + s.amount ≡ sum_by (λ (x : Stream). x.amount) ss + (s.amount - remaining i) =
      sum_put_old stream_key (λ (x : Stream). x.amount) (sent s i is) s ss g.rising h.found in
      let a = head_amount ss s.id s i is g h in let b = head_total ss s.id s i is g h in
      omega arith

  pub sent_waiting : suc (waiting (put_stream (sent s i is) ss)) ≡ waiting ss
  sent_waiting =
      let e : sum_by (λ (x : Stream). length x.items) (put_stream (sent s i is) ss) + length s.items ≡ sum_by (λ (x : Stream). length x.items) ss + length is =
      sum_put_old stream_key (λ (x : Stream). length x.items) (sent s i is) s ss g.rising h.found in
      let l : length s.items ≡ suc (length is) = ap length h.items in
      omega arith

  -- The scheduler begins anew with the stream's next message.
  anew : set_bytes_remaining s.id (head_size is) (weight_of il s) (calm_scheduler o il none []) ≡ calm_scheduler o il none (put_stream (sent s i is) ss)
  anew =
      ap (λ (w : Weight). set_bytes_remaining s.id (head_size is) w (calm_scheduler o il none [])) (weight_same il s (sent s i is) refl)
      ∙ reschedule_as (sent s i is)
      ∙ reschedule_put o il none (sent s i is) [] tt (head_items ss s.id s i is g h).1
      ∙ ap (λ (d : Option ℕ). calm_scheduler o il d (put_stream (sent s i is) [])) (still_none s.id is)
      ∙ same_active o il none (put_stream (sent s i is) []) (put_stream (sent s i is) ss)
      (solo_actives o.payload_limit il (sent s i is) [] tt tt ∙ sym (solo_actives o.payload_limit il (sent s i is) ss g.rising one))
    where
      reschedule_as : (x : Stream) → set_bytes_remaining x.id (head_size x.items) (weight_of il x) (calm_scheduler o il none []) ≡ reschedule il x (calm_scheduler o il none [])
      reschedule_as x = sym (reschedule_of il x (calm_scheduler o il none []))

  last_calm : last_in not_paused (calm o il c n ss) (entry o.payload_limit il s) s i is (remaining i) ≡ with_state (calm o il c n ss) (amounts ss - remaining i) (put_stream (model_with_pause not_paused (sent s i is)) ss)
      (set_bytes_remaining s.id (head_size is) (weight_of il s) (accept (entry o.payload_limit il s) (remaining i) (calm o il c n ss).scheduler))
  unfolding last_in next_size calm
  last_calm = refl

  with_calm : (t : ℕ) (xs : List Stream) → t ≡ amounts xs → with_state (calm o il c n ss) t xs (calm_scheduler o il none xs) ≡ calm o il none n xs
  unfolding calm
  with_calm t xs e = let f : ℕ → Queue = λ x. record { options = o; interleaving = il; total = x; next_message_id = n; streams = xs; scheduler = calm_scheduler o il none xs } in ap f e

  pub handed_out_one : handed_out (calm o il c n ss) (entry o.payload_limit il s) s i is (remaining i) ≡ calm o il none n (put_stream (sent s i is) ss)
  handed_out_one =
      let q : Queue = calm o il c n ss in
      let a : Active = entry o.payload_limit il s in
      let op = (head_good ss s.id s i is g h).opened in
      let same_sent : model_with_pause not_paused (sent s i is) ≡ sent s i is = ap (λ (p : PauseState). model_with_pause p (sent s i is)) (sym op) in
      handed_out_whole q a s i is ∙ handed_out_last_of q a s i is (remaining i)
      ∙ ap (λ (p : PauseState). last_in p q a s i is (remaining i)) (ap end_pending op ∙ end_open)
      ∙ last_calm
      ∙ ap (λ (x : Stream). with_state q (amounts ss - remaining i) (put_stream x ss) (set_bytes_remaining s.id (head_size is) (weight_of il s) (accept a (remaining i) q.scheduler))) same_sent
      ∙ ap (λ (sc : Scheduler). with_state q (amounts ss - remaining i) (put_stream (sent s i is) ss) sc) (ap (set_bytes_remaining s.id (head_size is) (weight_of il s)) accept_one ∙ anew)
      ∙ with_calm (amounts ss - remaining i) (put_stream (sent s i is) ss) (sym sent_amounts)
