-- Every list of calls is the model's. Assumes nothing.
use mathlib.Core.Path.{◌≡◌, refl, sym, ap, ap₂, ◌∙◌, subst}
use mathlib.Core.Bool.{Bool, true, false}
use mathlib.Core.List.{List, [], ◌∷◌}
use mathlib.Core.Option.{Option, none, some}
use Prim.Native.Nat.{ℕ}
use native.Mathlib.Omega.{arith}
use lib.ListN.{length}
use Rattle.std.specs.Prelude.{if◌then◌else◌}
use Rattle.queue_model.specs.Logic.{outside}
use Rattle.queue_model.specs.Refusals.{first_refusal}
use Rattle.receiver_model.specs.Types as model
use Rattle.receiver_model.specs.Types.{Receiver}
use Rattle.receiver_model.specs.Receive.{create_refusal, new_receiver}
use Rattle.receiver_model.specs.Run as run
use Rattle.receiver_words.specs.Chunks.{kind_of}
use Rattle.receiver_fragments.specs.Received as answer
use Rattle.receiver_fragments.specs.Fetched as fetch_answer
use Rattle.receiver_fragments.specs.Creating as creating
use Rattle.receiver_fragments.specs.Receiving as receiving
use Rattle.receiver_fragments.specs.Fetching as fetching
use Rattle.linked_receiver.specs.Promise.{Represents}
use Rattle.linked_receiver.proofs.Creates.{creates}
use Rattle.linked_receiver.proofs.Fetches.{fetch_represents, fetch_other}
use Rattle.queue_runs.specs.Run.{State}
use Rattle.receiver_runs.specs.Calls.{own, other, Call, receive, fetch, Typed, AllTyped, Answer, received, fetched}
use Rattle.receiver_runs.specs.Run as runs
use Rattle.receiver_runs.specs.Run.{new_receiver_words, Creates}
use Rattle.receiver_runs.specs.Meaning.{chunk_read, call_of, calls_of, answer_in, answers_of, sixteen, NoSixteen, Linked}
use Rattle.receiver_runs.proofs.Came.{Came, came_new, came_step, store_kept, NotSixteen, step_not}
use Rattle.receiver_runs.proofs.Receives.{store_length, typed_read, receive_other, receive_law}

-- ------------------------------------------------------------------ creation is refused with 2 alone

creation_number : (n m : ℕ) → create_refusal n ≡ some m → m ≡ 0 → ⊥
unfolding create_refusal first_refusal
creation_number n m e z = go (outside 1 2000000 n) e
  where
    go : (b : Bool) → (if b then some 2 else none) ≡ some m → ⊥
    go true f = let q : 2 ≡ m = cc in omega arith
    go false f = let q : ◌≡◌ {A = ℕ} 0 1 = cc in omega arith

-- ------------------------------------------------------------------ one call

-- Words and store are those of a receiver that calls lead to.
pub record Stands (s : State) (r : Receiver) : Type 0 where
  pub represents : Represents s.words s.store r
  pub came : Came r

pub record Stepped (c : Call) (s : State) (r : Receiver) : Type 0 where
  pub represents : Represents (runs.step c s).next.words (runs.step c s).next.store (run.step (call_of (length s.store) c) r).next
  pub answered : answer_in (runs.step c s).shows.answer (runs.step c s).shows.buffer ≡ (run.step (call_of (length s.store) c) r).answer

pub stepped : (c : Call) (s : State) (r : Receiver) → Stands s r → Typed (length s.store) c → Stepped c s r
unfolding runs.step run.step
stepped (receive own bs) s r v t = let h = receive_law s.words s.store bs r v.represents v.came t.1.1 in record { represents = h.represents; answered = h.answered }
stepped (receive (other st) bs) s r v t =
    let h = receive_other s.words s.store st bs r (chunk_read bs) v.represents t.0 in
    record {
      represents = subst (λ (o : receiving.Outcome). Represents o.words s.store (run.step (call_of (length s.store) (receive (other st) bs)) r).next) (sym h.0)
          (subst (Represents s.words s.store) (ap (λ (x : model.Step). x.next) (sym h.1)) v.represents);
      answered = ap (λ (o : receiving.Outcome). answer_in (received o.answer) []) h.0 ∙ ap (λ (x : model.Step). x.answer) (sym h.1);
    }
stepped (fetch own out) s r v t = let h = fetch_represents s.words s.store out r v.represents in record { represents = h.represents; answered = h.answered }
stepped (fetch (other st) out) s r v t =
    let h = fetch_other s.words s.store st out r v.represents t.0 in
    record {
      represents = subst (λ (o : fetching.Outcome). Represents o.words s.store (run.step (call_of (length s.store) (fetch (other st) out)) r).next) (sym h.0)
          (subst (Represents s.words s.store) (ap (λ (x : model.Step). x.next) (sym h.1)) v.represents);
      answered = ap (λ (o : fetching.Outcome). answer_in (fetched o.answer) o.buffer) h.0 ∙ ap (λ (x : model.Step). x.answer) (sym h.1);
    }

came_on : (c : Call) (s : State) (r : Receiver) → Stands s r → Typed (length s.store) c → Came (run.step (call_of (length s.store) c) r).next
came_on (receive own bs) s r v t = came_step (run.receive (length s.store) (chunk_read bs)) r v.came (typed_read (length s.store) bs t.1.1)
came_on (receive (other st) bs) s r v t = came_step (run.receive (length st) (chunk_read bs)) r v.came (typed_read (length st) bs t.1.1)
came_on (fetch own out) s r v t = came_step (run.fetch (length s.store) (length out)) r v.came tt
came_on (fetch (other st) out) s r v t = came_step (run.fetch (length st) (length out)) r v.came tt

-- The store keeps its length.
pub same_store : (c : Call) (s : State) (r : Receiver) → Stands s r → Typed (length s.store) c → length (runs.step c s).next.store ≡ length s.store
same_store c s r v t =
    let h = stepped c s r v t in
    store_length (runs.step c s).next.words (runs.step c s).next.store _ h.represents
    ∙ store_kept (call_of (length s.store) c) r
    ∙ sym (store_length s.words s.store r v.represents)

pub stands_on : (c : Call) (s : State) (r : Receiver) → Stands s r → Typed (length s.store) c → Stands (runs.step c s).next (run.step (call_of (length s.store) c) r).next
stands_on c s r v t = record { represents = (stepped c s r v t).represents; came = came_on c s r v t }

-- ------------------------------------------------------------------ lists of calls

pub record Ran (cs : List Call) (s : State) (r : Receiver) : Type 0 where
  pub stands : Stands (runs.after cs s) (run.after (calls_of (length s.store) cs) r)
  pub answers : answers_of (runs.run cs s) ≡ run.run (calls_of (length s.store) cs) r
  pub no_sixteen : NoSixteen (runs.run cs s)
  pub store_same : length (runs.after cs s).store ≡ length s.store

-- An answer that is not 16 in the model is not 16.
not_sixteen : (a : Answer) (out : List ℕ) → NotSixteen (answer_in a out) → sixteen a ≡ false
not_sixteen (received (answer.Refused n)) out h = h
not_sixteen (received answer.Repeated) out h = refl
not_sixteen (received answer.Accepted) out h = refl
not_sixteen (fetched (fetch_answer.Refused n)) out h = h
not_sixteen (fetched fetch_answer.NoneReady) out h = refl
not_sixteen (fetched (fetch_answer.Message d)) out h = refl

ran_none : (s : State) (r : Receiver) → Stands s r → Ran [] s r
unfolding runs.after runs.run run.after run.run
ran_none s r v = record { stands = v; answers = refl; no_sixteen = tt; store_same = refl }

ran_more : (c : Call) (cs : List Call) (s : State) (r : Receiver) → Stepped c s r → length (runs.step c s).next.store ≡ length s.store
    → Ran cs (runs.step c s).next (run.step (call_of (length s.store) c) r).next → Ran (c ∷ cs) s r
unfolding runs.after runs.run run.after run.run
ran_more c cs s r h e v =
    let r' = (run.step (call_of (length s.store) c) r).next in
    record {
      stands = subst (λ (n : ℕ). Stands (runs.after cs (runs.step c s).next) (run.after (calls_of n cs) r')) e v.stands;
      answers = ap₂ (λ (a : model.Answer) (more : List model.Answer). a ∷ more) h.answered (v.answers ∙ ap (λ (n : ℕ). run.run (calls_of n cs) r') e);
      no_sixteen = (not_sixteen (runs.step c s).shows.answer (runs.step c s).shows.buffer (subst NotSixteen (sym h.answered) (step_not (call_of (length s.store) c) r)), v.no_sixteen);
      store_same = v.store_same ∙ e;
    }

pub run_link : (cs : List Call) (s : State) (r : Receiver) → Stands s r → AllTyped (length s.store) cs → Ran cs s r
run_link [] s r v t = ran_none s r v
run_link (c ∷ cs) s r v t =
    let e = same_store c s r v t.0 in
    ran_more c cs s r (stepped c s r v t.0) e
    (run_link cs (runs.step c s).next (run.step (call_of (length s.store) c) r).next (stands_on c s r v t.0) (subst (λ (n : ℕ). AllTyped n cs) (sym e) t.1))

-- ------------------------------------------------------------------ from creation

pub new_stands : (i_data : Bool) (start : ℕ) (s : State) → Creates i_data start s → Stands (new_receiver_words i_data start s) (new_receiver (kind_of i_data) (length s.store) start)
new_stands i_data start s h = go (create_refusal (length s.store)) refl
  where
    go : (o : Option ℕ) → create_refusal (length s.store) ≡ o → Stands (new_receiver_words i_data start s) (new_receiver (kind_of i_data) (length s.store) start)
    go none e = record {
      represents = (creates s.words s.store i_data start h.long h.start_fits).represents e;
      came = came_new (kind_of i_data) (length s.store) start;
    }
    go (some n) e =
        let q : creating.create s.words s.store i_data start ≡ creating.created n s.words = (creates s.words s.store i_data start h.long h.start_fits).refuses n e in
        absurd (creation_number (length s.store) n e (ap (λ (o : creating.Outcome). o.answer) (sym q) ∙ h.accepted))

pub linked : Linked
linked i_data start s cs h t =
    let v = run_link cs (new_receiver_words i_data start s) (new_receiver (kind_of i_data) (length s.store) start) (new_stands i_data start s h) t in
    record { represents = v.stands.represents; answers = v.answers; no_sixteen = v.no_sixteen }
