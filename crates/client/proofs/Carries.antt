-- What the public calls promise of the model, call after call: the bytes that come out are those that went in. Assumes nothing.
use mathlib.Core.Path.{◌≡◌, refl, sym, ap, ap₂, ◌∙◌, subst}
use mathlib.Core.Bool.{Bool, true, false, ◌&&◌}
use mathlib.Core.List.{List, [], ◌++◌}
use Prim.Native.Nat.{ℕ, ◌≤◌}
use native.Mathlib.Omega.{arith}
use borrow.Author.Tests.{le-ltb}
use lib.ListN.{length, take, drop, length-drop, take-append-drop}
use lib.Seq.{take_at, length-take-le}
use Rattle.std.specs.Prelude.{Result, Ok, Err}
use Rattle.std.specs.Result.{is_ok}
use Rattle.types.specs.declared.refusal.Refusal.{Refusal}
use Rattle.queue_model.specs.Types.{Answer, Queue, fragment, Step, done, reply}
use Rattle.queue_model.specs.Streams.{new_queue}
use Rattle.queue_model.specs.Refusals.{first_refusal, create_refusal, creation_or, create, new}
use Rattle.queue_model.specs.Run as run
use Rattle.queue_messages.specs.declared.message.Message.{Message}
use Rattle.queue_sending.specs.Produced.{Produced}
use Rattle.queue_sending.specs.Data.{produced_with}
use Rattle.queue_streams.specs.Events.{places_in}
use Rattle.queue_streams.specs.Call.{Call}
use Rattle.queue_state.specs.Model.{model}
use Rattle.queue_state.specs.Good.{Good}
use Rattle.queue_state.specs.Promise.{call_of, Does}
use Rattle.queue_words.specs.declared.header.RestartRule.TheVariants.{Dcsctp}
use Rattle.linked_adding.specs.Create.{CreateMeets, answer_of}
use Rattle.linked_adding.specs.Add.{AddMeets}
use Rattle.linked_adding.specs.Message.{message_of_words}
use Rattle.linked_sending.specs.Meaning.{produced_of, buffer_of, Sends, ProduceMeets}
use Rattle.queue_streams.specs.Answers.{as_call, is_accepted}
use Rattle.client.specs.Carried.{plain_message, is_fragment, Fits, Carried}
use Rattle.client.proofs.Steps.{options, Gives, passes}

-- an answer that is no refusal is an accepted call's
pub ok_accepted : (r : Result ℕ Refusal) (told : Bool) → told ≡ is_ok r → told ≡ is_accepted (as_call r)
ok_accepted (Ok k) told e = e
ok_accepted (Err n) told e = e

-- After a call: it was accepted, and the words and the store stand for this queue.
record Now (told : Bool) (ws st : List ℕ) (q : Queue) : Type 0 where
  told_true : told ≡ true
  good : Good ws st
  stands : model ws st ≡ q

is_new : (len : ℕ) → 1 ≤ len → len ≤ 2000000 → create (options len) ≡ new (new_queue (options len))
unfolding create create_refusal creation_or first_refusal
is_new len h k = rw (le-ltb len 1 h, le-ltb 2000000 len k)

created : (ws st : List ℕ) (r : Call) (ws' : List ℕ) → 1 ≤ length st → length st ≤ 2000000 → CreateMeets ws st 1200 256 0 0 false Dcsctp r ws' → Now (is_accepted r) ws' st (new_queue (options (length st)))
created ws st r ws' h k c =
    let e = is_new (length st) h k in
    record { told_true = ap is_accepted (c.model.answer ∙ ap answer_of e); good = c.model.good _ e; stands = c.model.stands _ e }

added : (t : Bool) (q q' : Queue) (c : run.Call) (ws st : List ℕ) (r : Call) (ws' st' : List ℕ) → Now t ws st q → (Good ws st → Does c ws st r ws' st') → run.step c q ≡ reply done [] q' → Now (is_accepted r) ws' st' q'
added t q q' c ws st r ws' st' n d e =
    let f : run.step c (model ws st) ≡ reply done [] q' = ap (run.step c) n.stands ∙ e in
    let m = d n.good in
    record {
      told_true = ap is_accepted (m.answer ∙ ap (λ (s : Step). call_of s.outcome.answer (length s.outcome.events)) f);
      good = m.good;
      stands = m.next ∙ ap (λ (s : Step). s.next) f;
    }

-- After a fragment: also, these bytes are at the buffer's start.
record Got (told : Bool) (ws st bs buffer : List ℕ) (q : Queue) : Type 0 where
  is_now : Now told ws st q
  bytes : take (length bs) buffer ≡ bs

sent : (t : Bool) (q q' : Queue) (c : run.Call) (ws st es bs xs : List ℕ) (r : Produced) (ws' es' bs' : List ℕ) → Now t ws st q → (Good ws st → Sends (run.step c (model ws st)) st es bs (produced_with r ws' es' bs')) → Gives (run.step c q) xs q'
    → Got (is_fragment r) ws' st xs bs' q'
sent t q q' c ws st es bs xs r ws' es' bs' n d g =
    let m = d n.good in
    let f : run.step c (model ws st) ≡ run.step c q = ap (run.step c) n.stands in
    let an : (run.step c (model ws st)).outcome.answer ≡ fragment g.what = ap (λ (s : Step). s.outcome.answer) f ∙ g.answer in
    record {
      is_now = record {
        told_true = ap is_fragment (m.answer ∙ ap (λ (x : Answer). produced_of x (length (run.step c (model ws st)).outcome.events)) an);
        good = m.good;
        stands = m.next ∙ ap (λ (s : Step). s.next) f ∙ g.next;
      };
      bytes = ap (take (length xs)) (m.buffer ∙ ap (λ (x : Answer). buffer_of x bs) an ∙ ap (λ (l : List ℕ). l ++ drop (length l) bs) g.bytes) ∙ take_at xs (drop (length xs) bs) (length xs) refl;
    }

-- ---- all six calls

pub carries : (ws st es a b one two three : List ℕ)
    (r₁ : Call) (ws₁ : List ℕ) → CreateMeets ws st 1200 256 0 0 false Dcsctp r₁ ws₁
    → (m : Message) (r₂ : Call) (ws₂ st₂ : List ℕ) → m ≡ plain_message 1 → AddMeets ws₁ st 0 m a r₂ ws₂ st₂ → length st₂ ≡ length st
    → (n : Message) (r₃ : Call) (ws₃ st₃ : List ℕ) → n ≡ plain_message 2 → AddMeets ws₂ st₂ 0 n b r₃ ws₃ st₃ → length st₃ ≡ length st₂
    → (r₄ : Produced) (ws₄ es₄ one' : List ℕ) → ProduceMeets ws₃ st₃ es one 0 1200 r₄ ws₄ es₄ one' → length es₄ ≡ length es
    → (r₅ : Produced) (ws₅ es₅ two' : List ℕ) → ProduceMeets ws₄ st₃ es₄ two 0 1200 r₅ ws₅ es₅ two' → length es₅ ≡ length es₄
    → (r₆ : Produced) (ws₆ es₆ three' : List ℕ) → ProduceMeets ws₅ st₃ es₅ three 0 1200 r₆ ws₆ es₆ three'
    → (t₁ t₂ t₃ t₄ t₅ t₆ : Bool) → t₁ ≡ is_accepted r₁ → t₂ ≡ is_accepted r₂ → t₃ ≡ is_accepted r₃ → t₄ ≡ is_fragment r₄ → t₅ ≡ is_fragment r₅ → t₆ ≡ is_fragment r₆
    → Fits (length st) (length es) a b one two three → Carried a b (((((t₁ && t₂) && t₃) && t₄) && t₅) && t₆) one' two' three'
carries ws st es a b one two three r₁ ws₁ c₁ m r₂ ws₂ st₂ em c₂ e₂ n r₃ ws₃ st₃ en c₃ e₃ r₄ ws₄ es₄ one' c₄ e₄ r₅ ws₅ es₅ two' c₅ e₅ r₆ ws₆ es₆ three' c₆ t₁ t₂ t₃ t₄ t₅ t₆ i₁ i₂ i₃ i₄ i₅ i₆ f =
    let p = passes (length st) a b f.store_most f.store_holds f.first_long f.first_most f.second_some f.second_most in
    let s₃ : length st₃ ≡ length st = e₃ ∙ e₂ in
    let n₁ = created ws st r₁ ws₁ (omega (arith, f.store_holds, f.first_long)) f.store_most c₁ in
    let n₂ = added _ _ p.q₁ _ _ _ _ _ _ n₁ c₂.model (ap (λ (x : Message). run.step (run.add (length st) 0 (message_of_words x a)) (new_queue (options (length st)))) em ∙ p.add_one) in
    let n₃ = added _ _ p.q₂ _ _ _ _ _ _ n₂ c₃.model (ap₂ (λ (l : ℕ) (x : Message). run.step (run.add l 0 (message_of_words x b)) p.q₁) e₂ en ∙ p.add_two) in
    let g₄ = sent _ _ p.q₃ _ _ _ _ _ (take 1200 a) _ _ _ _ n₃ c₄.model (subst (λ (l : ℕ). Gives (run.step (run.produce l (places_in es) (length one) 0 1200) p.q₂) (take 1200 a) p.q₃) (sym s₃) (p.take_one (places_in es) (length one) (omega (arith, f.event_places)) f.one_room)) in
    let g₅ = sent _ _ p.q₄ _ _ _ _ _ (drop 1200 a) _ _ _ _ g₄.is_now c₅.model (subst (λ (l : ℕ). Gives (run.step (run.produce l (places_in es₄) (length two) 0 1200) p.q₃) (drop 1200 a) p.q₄) (sym s₃) (p.take_two (places_in es₄) (length two) (omega (arith, f.event_places)) f.two_room)) in
    let g₆ = sent _ _ p.q₅ _ _ _ _ _ b _ _ _ _ g₅.is_now c₆.model (subst (λ (l : ℕ). Gives (run.step (run.produce l (places_in es₅) (length three) 0 1200) p.q₄) b p.q₅) (sym s₃) (p.take_three (places_in es₅) (length three) (omega (arith, f.event_places)) f.three_room)) in
    record {
      accepted = rw (i₁, i₂, i₃, i₄, i₅, i₆, n₁.told_true, n₂.told_true, n₃.told_true, g₄.is_now.told_true, g₅.is_now.told_true, g₆.is_now.told_true);
      first_whole = ap₂ (λ (x y : List ℕ). x ++ y) (rw (length-take-le 1200 a (omega (arith, f.first_long))) at g₄.bytes) (rw (length-drop 1200 a) at g₅.bytes) ∙ take-append-drop 1200 a;
      second_whole = g₆.bytes;
    }
