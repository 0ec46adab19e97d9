-- Request 7/13 on the code. Assumes nothing.
use mathlib.Core.Path.{◌≡◌, sym, ap, ◌∙◌, subst}
use mathlib.Core.Bool.{Bool, not}
use mathlib.Core.List.{List, [], ◌∷◌, map}
use mathlib.Core.Option.{Option, none, some}
use Prim.Native.Nat.{ℕ, ◌<◌, ◌^◌}
use native.Mathlib.Omega.{arith}
use lib.Dec.{eqb, ltb}
use lib.ListN.{length}
use Rattle.queue_model.specs.Types as plain
use Rattle.queue_model.specs.Types.{Queue, Fragment}
use Rattle.queue_model.specs.Streams.{waiting}
use Rattle.queue_model.specs.Refusals.{first_refusal, ◌when◌}
use Rattle.queue_model.specs.Demands as demands
use Rattle.queue_model.specs.Run as queue_run
use Rattle.receiver_model.specs.Types.{Kind, Assembled, Receiver, Answer, none_ready, fetched, reply}
use Rattle.receiver_model.specs.Receive.{refused_or, new_receiver}
use Rattle.receiver_model.specs.Fetch as fetching
use Rattle.receiver_model.specs.Fetch.{as_message, with_ready, fetch_from}
use Rattle.receiver_model.specs.Run as run
use Rattle.receiver_model.specs.Run.{came_out}
use Rattle.receiver_model.specs.Claim.{Move, arrivals, as_call, AllAccepted, OnlySent, AllArrive}
use Rattle.receiver_model.specs.Sender.{model_chunk_of, sent_by, queued_by, Undisturbed, Arrived}
use Rattle.receiver_model.proofs.Delivery.{delivers}
use Rattle.receiver_words.specs.Chunks.{kind_of}
use Rattle.receiver_fragments.specs.Fetched.{Fetched}
use Rattle.receiver_fragments.specs.Fetched as fetch_answer
use Rattle.receiver_fragments.specs.Fetching as words
use Rattle.linked_receiver.specs.Fetches.{answer_of}
use Rattle.linked_receiver.proofs.Fetches.{fetch_represents}
use Rattle.queue_packets.proofs.Fit.{AllFit}
use Rattle.queue_runs.specs.Calls as queue
use Rattle.queue_runs.specs.Run.{State}
use Rattle.queue_runs.specs.Meaning.{queue_of, calls_of}
use Rattle.queue_runs.specs.Creation.{Arguments, options_with, new_state}
use Rattle.queue_runs.proofs.Steps.{store_small}
use Rattle.queue_runs.proofs.Runs as queue_link
use Rattle.queue_runs.proofs.News.{new_link}
use Rattle.receiver_runs.specs.Calls as calls
use Rattle.receiver_runs.specs.Calls.{own, fetch}
use Rattle.receiver_runs.specs.Run as runs
use Rattle.receiver_runs.specs.Run.{new_receiver_words, Creates}
use Rattle.receiver_runs.specs.Meaning.{call_of, answers_of}
use Rattle.receiver_runs.specs.Sender.{Piece, pieces_in, messages_in}
use Rattle.receiver_runs.specs.Promise.{piece_of, sent_by_words, queued_by_words, Sends, Feed, move_of, arrived, AllFed, calls_for, fed_shown, fed_after, came_out_words, Request7}
use Rattle.receiver_runs.proofs.Runs.{Stands, Ran, run_link, new_stands}
use Rattle.receiver_runs.proofs.Sender.{pieces_are, messages_are, typed_calls, sent_fit}
use Rattle.receiver_runs.proofs.Chunks.{length_pieces, calls_are, typed_feeds, only_sent}

-- ------------------------------------------------------------------ none is ready, whatever the buffer

module _ (n b : ℕ) (r : Receiver) where
  from_any : (rs : List Assembled) → (fetch_from b rs r).answer ≡ none_ready → (fetch_from 0 rs r).answer ≡ none_ready
  unfolding fetch_from refused_or
  from_any [] e = e
  from_any (a ∷ more) e = absurd (go (first_refusal ((10 when ltb b (length (as_message a).payload)) ∷ [])) e)
    where
      go : (o : Option ℕ) → (refused_or o r (reply (fetched (as_message a)) (with_ready more r))).answer ≡ none_ready → ⊥
      go none f = let z : ◌≡◌ {A = ℕ} 0 1 = cc in omega arith
      go (some m) f = let z : ◌≡◌ {A = ℕ} 0 1 = cc in omega arith

  none_any : (fetching.fetch n b r).answer ≡ none_ready → (fetching.fetch n 0 r).answer ≡ none_ready
  unfolding fetching.fetch refused_or
  none_any e = go (first_refusal ((2 when not (eqb n r.store_length)) ∷ [])) e
    where
      go : (o : Option ℕ) → (refused_or o r (fetch_from b r.ready r)).answer ≡ none_ready → (refused_or o r (fetch_from 0 r.ready r)).answer ≡ none_ready
      go none f = from_any r.ready f
      go (some m) f = f

fetched_none : (a : Fetched) → calls.fetched a ≡ calls.fetched fetch_answer.NoneReady → a ≡ fetch_answer.NoneReady
fetched_none a e = cc

-- ------------------------------------------------------------------ the receiver's side

-- The fragments fs of the model, written as chunks and fed to a new receiver.
module _ (b : Bool) (start : ℕ) (s : State) (creates : Creates b start s) (fs : List Fragment) (fit : AllFit fs) (feeds : List Feed) (fed : AllFed b start (map piece_of fs) feeds) where
  abbrev len : ℕ
  len = length s.store

  abbrev new : Receiver
  new = new_receiver (kind_of b) (length s.store) start

  -- the model's calls
  abbrev moves : List run.Call
  moves = map (as_call (model_chunk_of (kind_of b) start fs) (length s.store)) (map move_of feeds)

  ran : Ran (calls_for b start (map piece_of fs) feeds) (new_receiver_words b start s) new
  ran = run_link (calls_for b start (map piece_of fs) feeds) (new_receiver_words b start s) new (new_stands b start s creates) (typed_feeds b start (length s.store) (map piece_of fs) feeds fed)

  same_calls : map (call_of (length s.store)) (calls_for b start (map piece_of fs) feeds) ≡ moves
  same_calls = calls_are b start (length s.store) fs fit feeds fed

  pub fed_answers : answers_of (fed_shown b start (map piece_of fs) s feeds) ≡ run.run moves new
  fed_answers = ran.answers ∙ ap (λ (cs : List run.Call). run.run cs new) same_calls

  pub fed_stands : Stands (fed_after b start (map piece_of fs) s feeds) (run.after moves new)
  fed_stands = subst (λ (cs : List run.Call). Stands (fed_after b start (map piece_of fs) s feeds) (run.after cs new)) same_calls ran.stands

  fed_none : (buffer : List ℕ) → (runs.step (fetch own buffer) (fed_after b start (map piece_of fs) s feeds)).shows.answer ≡ calls.fetched fetch_answer.NoneReady
      → (fetching.fetch (length s.store) 0 (run.after moves new)).answer ≡ none_ready
  unfolding runs.step
  fed_none buffer e =
      let t : State = fed_after b start (map piece_of fs) s feeds in
      let o = words.fetch t.words t.store buffer in
      let h = fetch_represents t.words t.store buffer (run.after moves new) fed_stands.represents in
      let q : (fetching.fetch (length t.store) (length buffer) (run.after moves new)).answer ≡ none_ready = sym h.answered ∙ ap (λ (a : Fetched). answer_of a o.buffer) (fetched_none o.answer e) in
      none_any (length s.store) (length buffer) (run.after moves new) (subst (λ (n : ℕ). (fetching.fetch n (length buffer) (run.after moves new)).answer ≡ none_ready) ran.store_same q)

-- What the model promises of fragments fs, for any moves.
abbrev Promised : Kind → ℕ → ℕ → List Fragment → List plain.Message → Type 0
Promised k start len fs ms =
    (moves : List Move) → OnlySent (length fs) (arrivals moves) → AllArrive (length fs) (arrivals moves)
    → AllAccepted (run.run (map (as_call (model_chunk_of k start fs) len) moves) (new_receiver k len start))
    → (fetching.fetch len 0 (run.after (map (as_call (model_chunk_of k start fs) len) moves) (new_receiver k len start))).answer ≡ none_ready
    → Arrived ms (came_out (run.run (map (as_call (model_chunk_of k start fs) len) moves) (new_receiver k len start)))

-- What is promised of fragments ps, fed to a receiver.
abbrev Delivered : Bool → ℕ → State → List Feed → List ℕ → List plain.Message → List Piece → Type 0
Delivered b start s feeds buffer ms ps =
    AllFed b start ps feeds → AllArrive (length ps) (arrived feeds)
    → AllAccepted (answers_of (fed_shown b start ps s feeds))
    → (runs.step (fetch own buffer) (fed_after b start ps s feeds)).shows.answer ≡ calls.fetched fetch_answer.NoneReady
    → Arrived ms (came_out_words (fed_shown b start ps s feeds))

feeds_deliver : (b : Bool) (start : ℕ) (s : State) (feeds : List Feed) (buffer : List ℕ) (fs : List Fragment) (ms : List plain.Message) → Creates b start s → AllFit fs
    → Promised (kind_of b) start (length s.store) fs ms → Delivered b start s feeds buffer ms (map piece_of fs)
feeds_deliver b start s feeds buffer fs ms creates fit promised fed all accepted none_left =
    let l = length_pieces fs in
    let e = fed_answers b start s creates fs fit feeds fed in
    subst (λ (os : List Answer). Arrived ms (came_out os)) (sym e)
    (promised (map move_of feeds)
    (subst (λ (n : ℕ). OnlySent n (arrived feeds)) l (only_sent b start (map piece_of fs) feeds fed))
    (subst (λ (n : ℕ). AllArrive n (arrived feeds)) l all)
    (subst AllAccepted e accepted)
    (fed_none b start s creates fs fit feeds fed buffer none_left))

-- ------------------------------------------------------------------ the sender's side

module _ (b : Bool) (a : Arguments) (q : State) (cs : List queue.Call) (h : Sends b a q cs) where
  abbrev Q : Queue
  Q = queue_of (new_state a q)

  abbrev size : ℕ
  size = length q.store

  abbrev options : plain.Options
  options = options_with a (length q.store)

  linked : queue_link.Ran cs (new_state a q)
  linked = queue_link.run_link cs (new_state a q) (new_link a q h.creates).good h.typed

  small : length q.store < 2 ^ 64
  small = store_small (new_state a q) (new_link a q h.creates).good

  pub typed : demands.AllTyped (calls_of (length q.store) cs)
  typed = typed_calls (length q.store) cs small h.typed

  pub sent_is : sent_by_words a q cs ≡ map piece_of (sent_by (calls_of size cs) Q)
  sent_is = ap pieces_in linked.shows_are ∙ pieces_are size cs Q

  pub queued_is : queued_by_words a q cs ≡ queued_by (calls_of size cs) Q
  queued_is = ap (messages_in cs) linked.shows_are ∙ messages_are size cs Q

  pub all_fit : AllFit (sent_by (calls_of size cs) Q)
  all_fit = sent_fit size cs Q (new_link a q h.creates).good.well typed

  pub few : length (sent_by (calls_of size cs) Q) < 2 ^ 31
  few = let e : length (sent_by_words a q cs) ≡ length (sent_by (calls_of size cs) Q) = ap length sent_is ∙ length_pieces (sent_by (calls_of size cs) Q) in let l = h.few in omega arith

  pub whole : waiting (queue_run.after (calls_of size cs) Q).streams ≡ 0
  whole = ap (λ (x : Queue). waiting x.streams) (sym linked.next_is) ∙ h.whole

  promised : (start len : ℕ) → Promised (kind_of b) start len (sent_by (calls_of size cs) Q) (queued_by (calls_of size cs) Q)
  promised start len =
      subst (λ (x : Queue). Undisturbed (kind_of b) (calls_of size cs) x → waiting (queue_run.after (calls_of size cs) x).streams ≡ 0 → length (sent_by (calls_of size cs) x) < 2 ^ 31
      → Promised (kind_of b) start len (sent_by (calls_of size cs) x) (queued_by (calls_of size cs) x)) (sym (new_link a q h.creates).queue_is)
      (λ u w f moves only all accepted none_left. delivers (kind_of b) start len options (calls_of size cs) moves (new_link a q h.creates).created typed u w f only all accepted none_left)
      h.undisturbed whole few

-- ------------------------------------------------------------------ the promise

pub request7 : Request7
request7 b start a q cs s feeds buffer h creates =
    let fs : List Fragment = sent_by (calls_of (length q.store) cs) (queue_of (new_state a q)) in
    subst (Delivered b start s feeds buffer (queued_by_words a q cs)) (sym (sent_is b a q cs h))
    (subst (λ (ms : List plain.Message). Delivered b start s feeds buffer ms (map piece_of fs)) (sym (queued_is b a q cs h))
    (feeds_deliver b start s feeds buffer fs (queued_by (calls_of (length q.store) cs) (queue_of (new_state a q))) creates (all_fit b a q cs h) (promised b a q cs h start (length s.store))))
