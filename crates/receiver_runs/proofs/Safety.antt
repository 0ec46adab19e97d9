-- Request 7/13 at any time, on the code. Assumes nothing.
use mathlib.Core.Path.{◌≡◌, refl, sym, ap, ◌∙◌, subst}
use mathlib.Core.Bool.{Bool}
use mathlib.Core.List.{List, [], ◌∷◌}
use mathlib.Core.Option.{Option, none, some}
use Prim.Native.Nat.{ℕ}
use lib.ListN.{length}
use Rattle.receiver_model.specs.Types.{Kind, Chunk}
use Rattle.receiver_model.specs.Receive.{new_receiver}
use Rattle.receiver_model.specs.Run as run
use Rattle.receiver_model.specs.Run.{came_out}
use Rattle.receiver_model.specs.Claim.{SoFar}
use Rattle.receiver_model.proofs.Theorem.{receives_safely}
use Rattle.receiver_words.specs.Chunks.{kind_of}
use Rattle.queue_runs.specs.Run.{State}
use Rattle.receiver_runs.specs.Calls.{Call, receive, fetch, AllTyped}
use Rattle.receiver_runs.specs.Run as runs
use Rattle.receiver_runs.specs.Run.{new_receiver_words, Creates}
use Rattle.receiver_runs.specs.Meaning.{chunk_read, lent_length, call_of, calls_of}
use Rattle.receiver_runs.specs.Promise.{came_out_words}
use Rattle.receiver_runs.specs.Safety.{OneOf, CarriesSent, AllCarrySent, Safe}
use Rattle.receiver_runs.proofs.Runs.{run_link, new_stands}
use Rattle.receiver_runs.proofs.Kept as model
use Rattle.receiver_runs.proofs.Kept.{Kept, kept}

module _ (chunk : ℕ → Chunk) (total len : ℕ) where
  read_sent : (n : ℕ) (o : Option Chunk) → ((c : Chunk) → o ≡ some c → OneOf chunk total c) → model.Sent chunk total len (run.receive n o)
  read_sent n none h = tt
  read_sent n (some c) h = h c refl

  call_sent : (c : Call) → CarriesSent chunk total c → model.Sent chunk total len (call_of len c)
  call_sent (receive l bs) h = read_sent (lent_length len l) (chunk_read bs) h
  call_sent (fetch l out) h = tt

  pub calls_sent : (cs : List Call) → AllCarrySent chunk total cs → model.AllSent chunk total len (calls_of len cs)
  calls_sent [] h = tt
  calls_sent (c ∷ cs) h = (call_sent c h.0, calls_sent cs h.1)

store_new : (k : Kind) (len start : ℕ) → (new_receiver k len start).store_length ≡ len
unfolding new_receiver
store_new k len start = refl

-- The calls that are not refused, as the model's moves; what comes out is the same.
pub out_kept : (b : Bool) (start : ℕ) (s : State) (cs : List Call) (chunk : ℕ → Chunk) (total : ℕ) → Creates b start s → AllTyped (length s.store) cs
    → AllCarrySent chunk total cs → Kept chunk total (length s.store) (calls_of (length s.store) cs) (new_receiver (kind_of b) (length s.store) start)
out_kept b start s cs chunk total h t sent =
    kept chunk total (length s.store) (calls_of (length s.store) cs) (new_receiver (kind_of b) (length s.store) start) (store_new (kind_of b) (length s.store) start) (calls_sent chunk total (length s.store) cs sent)

pub out_same : (b : Bool) (start : ℕ) (s : State) (cs : List Call) → Creates b start s → AllTyped (length s.store) cs
    → came_out_words (runs.run cs (new_receiver_words b start s)) ≡ came_out (run.run (calls_of (length s.store) cs) (new_receiver (kind_of b) (length s.store) start))
out_same b start s cs h t = ap came_out (run_link cs (new_receiver_words b start s) (new_receiver (kind_of b) (length s.store) start) (new_stands b start s h) t).answers

pub safe : Safe
safe b start S s cs h t sent =
    let k = out_kept b start s cs S.chunk S.total h t sent in
    subst (SoFar S) (sym (out_same b start s cs h t ∙ k.same_out)) (receives_safely (kind_of b) start S (length s.store) k.moves k.only k.accepted)
