-- Request 7/13 at any time, from a send queue's calls. Assumes nothing.
use mathlib.Core.Path.{◌≡◌, sym, ◌∙◌, subst}
use mathlib.Core.Bool.{Bool}
use mathlib.Core.List.{List, [], ◌∷◌, map}
use mathlib.Core.Option.{some}
use Prim.Native.Nat.{ℕ, ◌<◌, ◌^◌}
use lib.ListN.{length}
use Rattle.queue_model.specs.Types as plain
use Rattle.queue_model.specs.Types.{Queue, Fragment}
use Rattle.queue_model.specs.Streams.{waiting}
use Rattle.queue_model.specs.Run as queue_run
use Rattle.receiver_model.specs.Types.{Kind, Chunk}
use Rattle.receiver_model.specs.Receive.{new_receiver}
use Rattle.receiver_model.specs.Run as run
use Rattle.receiver_model.specs.Run.{came_out}
use Rattle.receiver_model.specs.Claim.{Move, arrivals, as_call, AllAccepted, OnlySent}
use Rattle.receiver_model.specs.Sender.{model_chunk_of, sent_by, queued_by, Undisturbed, ArrivedSoFar}
use Rattle.receiver_model.proofs.Delivery.{delivers_safely}
use Rattle.receiver_words.specs.Chunks.{kind_of}
use Rattle.queue_packets.proofs.Fit.{AllFit}
use Rattle.queue_runs.specs.Calls as queue
use Rattle.queue_runs.specs.Run.{State}
use Rattle.queue_runs.specs.Meaning.{queue_of, calls_of}
use Rattle.queue_runs.specs.Creation.{Arguments, options_with, new_state}
use Rattle.queue_runs.proofs.News.{new_link}
use Rattle.receiver_runs.specs.Run.{Creates}
use Rattle.receiver_runs.specs.Sender.{Piece}
use Rattle.receiver_runs.specs.Promise.{piece_of, queued_by_words, Sends, Feed, arrive, take_out, AllFed, calls_for, fed_shown, came_out_words}
use Rattle.receiver_runs.specs.Safety.{AllCarrySent, SafeSent}
use Rattle.receiver_runs.proofs.Chunks.{length_pieces, arrives, typed_feeds}
use Rattle.receiver_runs.proofs.Request7.{sent_is, queued_is, all_fit, typed, whole, few}
use Rattle.receiver_runs.proofs.Safety.{out_kept, out_same}

-- ------------------------------------------------------------------ what arrives was sent

some_is : (c d : Chunk) → some c ≡ some d → c ≡ d
some_is c d e = cc

carry_sent : (b : Bool) (start : ℕ) (fs : List Fragment) → AllFit fs → (feeds : List Feed) → AllFed b start (map piece_of fs) feeds
    → AllCarrySent (model_chunk_of (kind_of b) start fs) (length fs) (calls_for b start (map piece_of fs) feeds)
carry_sent b start fs fit [] h = tt
carry_sent b start fs fit (arrive i out ∷ feeds) h = (
  (λ c e. record {
    index = i;
    known = subst (λ (n : ℕ). i < n) (length_pieces fs) h.0.0;
    is = some_is c (model_chunk_of (kind_of b) start fs i) (sym e ∙ arrives b start 0 fs fit i out h.0.0 h.0.1.0);
  }),
  carry_sent b start fs fit feeds h.1,
)
carry_sent b start fs fit (take_out out ∷ feeds) h = (tt, carry_sent b start fs fit feeds h.1)

-- ------------------------------------------------------------------ the two sides

-- What the model promises of fragments fs, for any moves, at any time.
abbrev Promised : Kind → ℕ → ℕ → List Fragment → List plain.Message → Type 0
Promised k start len fs ms =
    (moves : List Move) → OnlySent (length fs) (arrivals moves) → AllAccepted (run.run (map (as_call (model_chunk_of k start fs) len) moves) (new_receiver k len start))
    → ArrivedSoFar ms (came_out (run.run (map (as_call (model_chunk_of k start fs) len) moves) (new_receiver k len start)))

abbrev Delivered : Bool → ℕ → State → List Feed → List plain.Message → List Piece → Type 0
Delivered b start s feeds ms ps = AllFed b start ps feeds → ArrivedSoFar ms (came_out_words (fed_shown b start ps s feeds))

feeds_deliver : (b : Bool) (start : ℕ) (s : State) (feeds : List Feed) (fs : List Fragment) (ms : List plain.Message) → Creates b start s → AllFit fs
    → Promised (kind_of b) start (length s.store) fs ms → Delivered b start s feeds ms (map piece_of fs)
feeds_deliver b start s feeds fs ms creates fit promised fed =
    let cs = calls_for b start (map piece_of fs) feeds in
    let t = typed_feeds b start (length s.store) (map piece_of fs) feeds fed in
    let k = out_kept b start s cs (model_chunk_of (kind_of b) start fs) (length fs) creates t (carry_sent b start fs fit feeds fed) in
    subst (ArrivedSoFar ms) (sym (out_same b start s cs creates t ∙ k.same_out)) (promised k.moves k.only k.accepted)

promised_by : (b : Bool) (a : Arguments) (q : State) (cs : List queue.Call) (h : Sends b a q cs) (start len : ℕ)
    → Promised (kind_of b) start len (sent_by (calls_of (length q.store) cs) (queue_of (new_state a q))) (queued_by (calls_of (length q.store) cs) (queue_of (new_state a q)))
promised_by b a q cs h start len =
    let ms = calls_of (length q.store) cs in
    subst (λ (x : Queue). Undisturbed (kind_of b) ms x → waiting (queue_run.after ms x).streams ≡ 0 → length (sent_by ms x) < 2 ^ 31 → Promised (kind_of b) start len (sent_by ms x) (queued_by ms x))
    (sym (new_link a q h.creates).queue_is)
    (λ u w f moves only accepted. delivers_safely (kind_of b) start len (options_with a (length q.store)) ms moves (new_link a q h.creates).created (typed b a q cs h) u w f only accepted)
    h.undisturbed (whole b a q cs h) (few b a q cs h)

pub safe_sent : SafeSent
safe_sent b start a q cs s feeds h creates =
    let fs : List Fragment = sent_by (calls_of (length q.store) cs) (queue_of (new_state a q)) in
    subst (Delivered b start s feeds (queued_by_words a q cs)) (sym (sent_is b a q cs h))
    (subst (λ (ms : List plain.Message). Delivered b start s feeds ms (map piece_of fs)) (sym (queued_is b a q cs h))
    (feeds_deliver b start s feeds fs (queued_by (calls_of (length q.store) cs) (queue_of (new_state a q))) creates (all_fit b a q cs h) (promised_by b a q cs h start (length s.store))))
