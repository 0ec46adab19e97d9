-- The account of request 11/13, first half, on the code. Assumes nothing.
use mathlib.Core.Path.{◌≡◌, refl, sym, ap, ap₂, ◌∙◌, subst}
use mathlib.Core.Bool.{Bool, true, false}
use mathlib.Core.List.{List, [], ◌∷◌}
use mathlib.Core.Option.{Option, get_or}
use Prim.Native.Nat.{ℕ, zero, suc, ◌+◌, ◌<◌}
use native.Mathlib.Omega.{arith}
use lib.ListN.{length}
use Rattle.queue_model.specs.Types as plain
use Rattle.queue_model.specs.Types.{Stream, Queue}
use Rattle.queue_model.specs.Streams.{stream_key, new_stream, at, stream_at, waiting, amounts, new_queue}
use Rattle.queue_model.specs.Questions.{amount_of}
use Rattle.queue_model.specs.Run as run
use Rattle.queue_model.specs.Account as model
use Rattle.std.specs.Prelude.{if◌then◌else◌}
use Rattle.queue_model.specs.Answers.{is_refused}
use Rattle.queue_model.specs.Fill.{filling}
use Rattle.queue_streams.specs.Events.{places_in}
use Rattle.linked_packets.specs.Meaning.{filled_of}
use Rattle.queue_runs.specs.Refusals.{refusal}
use Rattle.queue_model.specs.Account.{Account, no_bytes, fill_account, both, for_stream, unless_refused, passed, head_bytes, image_left}
use Rattle.queue_model.specs.Close.{closing_bytes}
use Rattle.queue_model.specs.Reset.{model_put_back}
use Rattle.queue_model.specs.Reader.{read_image}
use Rattle.types.specs.Keys.{key_of, key_id}
use Rattle.types.specs.declared.StreamId.{StreamId}
use Rattle.linked_sending.specs.Meaning.{produced_of}
use Rattle.queue_model.proofs.Tests.{less, same, more, tri}
use Rattle.queue_model.proofs.Table.{find_nil, find_here, find_there, find_after, own, other, is_own, After, Rising, Every, every_weaken}
use Rattle.queue_model.proofs.Streams.{at_found, at_new}
use Rattle.queue_model.proofs.Invariant.Well.{Kept}
use Rattle.queue_model.proofs.Account.Ledger as ledger
use Rattle.queue_model.proofs.Account.Ledger.{for_own, for_other}
use Rattle.queue_streams.specs.Number as number_answer
use Rattle.queue_questions.specs.Questions.{amount_of_words}
use Rattle.queue_state.specs.Promise.{number_of}
use Rattle.queue_state.specs.Promise as promise
use Rattle.linked_streams.proofs.Asks.{amount_asked, total_asked}
use Rattle.queue_runs.specs.Calls.{Call, add, produce, fill, discard, close, ready_ids, commit, rollback, reset, set_threshold, set_priority, set_interleaving, restore, ask_priority, ask_amount, ask_threshold, ask_total, ask_empty, ask_has_data, ask_streams_ready, ask_ready_count, ask_readiness, ask_room, call_of, Typed, Shown, called, sent, filled}
use Rattle.queue_runs.specs.Run.{State, step, after}
use Rattle.queue_runs.specs.Meaning.{queue_of, GoodState, AllTyped, calls_of}
use Rattle.queue_runs.specs.Creation.{options_with, new_state}
use Rattle.queue_runs.specs.Account.{value_of, sum_ids, handed, unless_refused_words, account, accounts, Request11Account}
use Rattle.queue_runs.proofs.Steps.{step_link, typed_call, store_small, meant}
use Rattle.queue_runs.proofs.Runs.{run_link}
use Rattle.queue_runs.proofs.News.{new_link}
use Rattle.queue_runs.proofs.Alike.{all_typed}

-- The model's answer to the question.
pub amount_answer : (k : ℕ) (q : Queue) → number_of (run.step (run.ask_amount k) q).outcome.answer ≡ number_answer.Value (amount_of q k)
unfolding run.step
amount_answer k q = refl

-- ------------------------------------------------------------------ the sum over the ids

sum_same : (f g : ℕ → ℕ) (n : ℕ) → ((k : ℕ) → f k ≡ g k) → sum_ids f n ≡ sum_ids g n
unfolding sum_ids
sum_same f g zero e = refl
sum_same f g (suc n) e = ap₂ ◌+◌ (sum_same f g n e) (e n)

sum_both : (f g : ℕ → ℕ) (n : ℕ) → sum_ids (λ (k : ℕ). f k + g k) n ≡ sum_ids f n + sum_ids g n
unfolding sum_ids
sum_both f g zero = refl
sum_both f g (suc n) = let ih = sum_both f g n in omega arith

sum_none : (f : ℕ → ℕ) (n : ℕ) → ((k : ℕ) → k < n → f k ≡ 0) → sum_ids f n ≡ 0
unfolding sum_ids
sum_none f zero e = refl
sum_none f (suc n) e = let ih = sum_none f n (λ k h. e k (omega arith)) in let z = e n (omega arith) in omega arith

-- One id's number counts once.
sum_one : (s a n : ℕ) → s < n → sum_ids (λ (k : ℕ). for_stream k s a) n ≡ a
unfolding sum_ids
sum_one s a zero h = absurd (omega arith)
sum_one s a (suc n) h = elim (tri s n) [
  | less l ↦ (let ih = sum_one s a n l in let z = for_other n s a (λ g. omega arith) in omega arith)
  | same g ↦ (let z = sum_none (λ (k : ℕ). for_stream k s a) n (λ k l. for_other k s a (λ e. omega arith)) in let y = for_own n s a g in omega arith)
  | more l ↦ absurd (omega arith)
]

amount_first : (o : plain.Options) (s : Stream) (ss : List Stream) (k : ℕ) → After stream_key s.id ss → (at o (s ∷ ss) k).amount ≡ for_stream k s.id s.amount + (at o ss k).amount
amount_first o s ss k h = elim (is_own stream_key s k) [
  | own g ↦ (let a : (at o (s ∷ ss) k).amount ≡ s.amount = ap (λ (x : Stream). x.amount) (at_found o (s ∷ ss) k s (find_here stream_key k s ss g)) in
      let b : (at o ss k).amount ≡ 0 = ap (λ (x : Stream). x.amount) (at_new o ss k (find_after stream_key k ss (subst (λ (x : ℕ). After stream_key x ss) g h))) in
      let c = for_own k s.id s.amount g in omega arith)
  | other n ↦ (let a : (at o (s ∷ ss) k).amount ≡ (at o ss k).amount = ap (λ (x : Option Stream). (get_or x (new_stream o k)).amount) (find_there stream_key k s ss n) in
      let c = for_other k s.id s.amount n in omega arith)
]

sum_table : (o : plain.Options) (ss : List Stream) (n : ℕ) → Rising stream_key ss → Every (λ (s : Stream). s.id < n) ss → sum_ids (λ (k : ℕ). (at o ss k).amount) n ≡ amounts ss
sum_table o [] n r e = sum_none (λ (k : ℕ). (at o [] k).amount) n (λ k l. ap (λ (x : Stream). x.amount) (at_new o [] k (find_nil stream_key k)))
sum_table o (s ∷ ss) n r e =
    let a = sum_same (λ (k : ℕ). (at o (s ∷ ss) k).amount) (λ (k : ℕ). for_stream k s.id s.amount + (at o ss k).amount) n (λ k. amount_first o s ss k r.0) in
    let b = sum_both (λ (k : ℕ). for_stream k s.id s.amount) (λ (k : ℕ). (at o ss k).amount) n in
    let c = sum_one s.id s.amount n e.0 in
    let d = sum_table o ss n r.1 e.1 in omega arith

-- What the questions answer is the model's amounts.
pub value_is : (s : State) (k : ℕ) → GoodState s → value_of (amount_of_words s.words k) ≡ amount_of (queue_of s) k
value_is s k g = ap value_of (amount_asked s.words s.store g k ∙ amount_answer k (queue_of s))

total_sum : (s : State) → GoodState s → (queue_of s).total ≡ sum_ids (λ (j : ℕ). value_of (amount_of_words s.words j)) 65536
unfolding amount_of
total_sum s g =
    let w = g.well in
    w.total_counted ∙ sym (sum_table (queue_of s).options (queue_of s).streams 65536 w.rising (every_weaken Kept (λ (x : Stream). x.id < 65536) (queue_of s).streams (λ x h. h.id_fits) w.kept))
    ∙ sym (sum_same (λ (j : ℕ). value_of (amount_of_words s.words j)) (λ (j : ℕ). (at (queue_of s).options (queue_of s).streams j).amount) 65536 (λ j. value_is s j g))

-- ------------------------------------------------------------------ what a call moves

called_unless : (a : plain.Answer) (m n : ℕ) → unless_refused_words (called (promise.call_of a m)) n ≡ unless_refused a n
called_unless (plain.refused r) m n = refl
called_unless plain.done m n = refl
called_unless (plain.number x) m n = refl
called_unless (plain.flag b) m n = refl
called_unless (plain.ids l) m n = refl
called_unless (plain.fragment f) m n = refl
called_unless plain.nothing_waits m n = refl
called_unless (plain.filled bs c) m n = refl

sent_unless : (a : plain.Answer) (m n : ℕ) → unless_refused_words (sent (produced_of a m)) n ≡ unless_refused a n
sent_unless (plain.refused r) m n = refl
sent_unless plain.done m n = refl
sent_unless (plain.number x) m n = refl
sent_unless (plain.flag b) m n = refl
sent_unless (plain.ids l) m n = refl
sent_unless (plain.fragment f) m n = refl
sent_unless plain.nothing_waits m n = refl
sent_unless (plain.filled bs c) m n = refl

pub key_same : (u : Bool) (id : StreamId) → key_id (key_of u id) ≡ id
key_same true id = refl
key_same false id = refl

pub sent_handed : (k : ℕ) (a : plain.Answer) (m : ℕ) → handed k (sent (produced_of a m)) ≡ model.handed k a
sent_handed k (plain.refused r) m = refl
sent_handed k plain.done m = refl
sent_handed k (plain.number x) m = refl
sent_handed k (plain.flag b) m = refl
sent_handed k (plain.ids l) m = refl
sent_handed k (plain.fragment f) m = ap (λ (x : StreamId). for_stream k x.0 (length f.bytes)) (key_same f.unordered (record { 0 = f.stream_id }))
sent_handed k plain.nothing_waits m = refl
sent_handed k (plain.filled bs c) m = refl

pub filled_refusal : (a : plain.Answer) (m : ℕ) → refusal (filled (filled_of a m)) ≡ is_refused a
filled_refusal (plain.refused r) m = refl
filled_refusal plain.done m = refl
filled_refusal (plain.number x) m = refl
filled_refusal (plain.flag b) m = refl
filled_refusal (plain.ids l) m = refl
filled_refusal (plain.fragment f) m = refl
filled_refusal plain.nothing_waits m = refl
filled_refusal (plain.filled bs c) m = refl

-- A call moves what the model's call moves.
account_link : (k : ℕ) (c : Call) (s : State) → GoodState s → Typed c → account k c s ≡ model.account k (call_of (length s.store) c) (queue_of s)
unfolding account model.account model.produce_account
account_link k (add time m payload) s g t =
    let o = (meant (add time m payload) s).outcome in
    let n : ℕ = for_stream k m.stream_id.0 (length payload) in
    ap (λ (x : ℕ). record { accepted = x; handed_out = 0; dropped_unsent = 0; put_back_whole = 0; left_to_send = 0 }) (ap (λ (x : Shown). unless_refused_words x.answer n) (step_link (add time m payload) s g t).shows_are ∙ called_unless o.answer (length o.events) n)
account_link k (produce es bs time size) s g t =
    let o = (meant (produce es bs time size) s).outcome in
    let n : ℕ = passed k (suc (waiting (queue_of s).streams)) time (queue_of s) in
    let e = (step_link (produce es bs time size) s g t).shows_are in
    ap₂ (λ (x y : ℕ). record { accepted = 0; handed_out = x; dropped_unsent = y; put_back_whole = 0; left_to_send = 0 })
    (ap (λ (x : Shown). handed k x.answer) e ∙ sent_handed k o.answer (length o.events)) (ap (λ (x : Shown). unless_refused_words x.answer n) e ∙ sent_unless o.answer (length o.events) n)
account_link k (fill es bs time p) s g t =
    let o = (meant (fill es bs time p) s).outcome in
    let x : Account = fill_account k (length s.store) (places_in es) time (filling (length s.store) (places_in es) time p.limit (queue_of s)).sizes (queue_of s) in
    ap (λ (b : Bool). if b then no_bytes else x) (ap (λ (y : Shown). refusal y.answer) (step_link (fill es bs time p) s g t).shows_are ∙ filled_refusal o.answer (length o.events))
account_link k (discard es id m) s g t =
    let o = (meant (discard es id m) s).outcome in
    let n : ℕ = for_stream k id (head_bytes m (stream_at (queue_of s) id).items) in
    ap (λ (x : ℕ). record { accepted = 0; handed_out = 0; dropped_unsent = x; put_back_whole = 0; left_to_send = 0 }) (ap (λ (x : Shown). unless_refused_words x.answer n) (step_link (discard es id m) s g t).shows_are ∙ called_unless o.answer (length o.events) n)
account_link k (close es id) s g t =
    let o = (meant (close es id) s).outcome in
    let n : ℕ = for_stream k id (closing_bytes (stream_at (queue_of s) id).pause_state (stream_at (queue_of s) id).items) in
    ap (λ (x : ℕ). record { accepted = 0; handed_out = 0; dropped_unsent = x; put_back_whole = 0; left_to_send = 0 }) (ap (λ (x : Shown). unless_refused_words x.answer n) (step_link (close es id) s g t).shows_are ∙ called_unless o.answer (length o.events) n)
account_link k ready_ids s g t = refl
account_link k commit s g t = refl
account_link k rollback s g t = refl
account_link k reset s g t =
    let o = (meant reset s).outcome in
    let n : ℕ = model_put_back (stream_at (queue_of s) k).items in
    ap (λ (x : ℕ). record { accepted = 0; handed_out = 0; dropped_unsent = 0; put_back_whole = x; left_to_send = 0 }) (ap (λ (x : Shown). unless_refused_words x.answer n) (step_link reset s g t).shows_are ∙ called_unless o.answer (length o.events) n)
account_link k (set_threshold es id x) s g t = refl
account_link k (set_priority id p) s g t = refl
account_link k (set_interleaving b) s g t = refl
account_link k (restore time image) s g t =
    let o = (meant (restore time image) s).outcome in
    let n : ℕ = image_left k (read_image image) in
    ap (λ (x : ℕ). record { accepted = 0; handed_out = 0; dropped_unsent = 0; put_back_whole = 0; left_to_send = x }) (ap (λ (x : Shown). unless_refused_words x.answer n) (step_link (restore time image) s g t).shows_are ∙ called_unless o.answer (length o.events) n)
account_link k (ask_priority id) s g t = refl
account_link k (ask_amount id) s g t = refl
account_link k (ask_threshold id) s g t = refl
account_link k ask_total s g t = refl
account_link k ask_empty s g t = refl
account_link k ask_has_data s g t = refl
account_link k ask_streams_ready s g t = refl
account_link k ask_ready_count s g t = refl
account_link k ask_readiness s g t = refl
account_link k (ask_room r) s g t = refl

accounts_link : (k : ℕ) (cs : List Call) (s : State) → GoodState s → AllTyped cs → accounts k cs s ≡ model.accounts k (calls_of (length s.store) cs) (queue_of s)
unfolding accounts model.accounts
accounts_link k [] s g t = refl
accounts_link k (c ∷ cs) s g t =
    let h = step_link c s g t.0 in
    ap₂ both (account_link k c s g t.0) (accounts_link k cs (step c s).next h.good t.1 ∙ ap₂ (λ (ms : List run.Call) (q : Queue). model.accounts k ms q) (ap (λ (n : ℕ). calls_of n cs) h.same_store) h.next_is)

-- ------------------------------------------------------------------ the theorem

pub request11_account : Request11Account
unfolding Request11Account model.Request11Account
request11_account a s cs k h t =
    let len : ℕ = length s.store in
    let o : plain.Options = options_with a len in
    let n = new_link a s h in
    let r = run_link cs (new_state a s) n.good t in
    let x : State = after cs (new_state a s) in
    let e : queue_of x ≡ run.after (calls_of len cs) (new_queue o) = r.next_is ∙ ap (run.after (calls_of len cs)) n.queue_is in
    let m : model.Accounted k (model.accounts k (calls_of len cs) (new_queue o)) (run.after (calls_of len cs) (new_queue o)) =
    ledger.request11_account o (calls_of len cs) k n.created (all_typed len cs (λ c d. typed_call len c (store_small (new_state a s) n.good) d) t) in
    let y : model.Accounted k (model.accounts k (calls_of len cs) (new_queue o)) (queue_of x) = subst (model.Accounted k (model.accounts k (calls_of len cs) (new_queue o))) (sym e) m in
    let b : accounts k cs (new_state a s) ≡ model.accounts k (calls_of len cs) (new_queue o) = accounts_link k cs (new_state a s) n.good t ∙ ap (model.accounts k (calls_of len cs)) n.queue_is in
    record {
      amount = amount_of (queue_of x) k;
      answers = amount_asked x.words x.store r.good k ∙ amount_answer k (queue_of x);
      amount_is = subst (λ (w : Account). amount_of (queue_of x) k + (w.handed_out + w.dropped_unsent) ≡ w.accepted + (w.put_back_whole + w.left_to_send)) (sym b) y.amount_is;
      total_is = total_asked x.words x.store ∙ total_sum x r.good;
    }
