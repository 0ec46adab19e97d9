-- Calls that are refused leave no trace: what comes out of a list of calls comes out of those that are not refused. Assumes nothing.
use mathlib.Core.Path.{◌≡◌, refl, sym, ap, ◌∙◌, subst}
use mathlib.Core.Bool.{Bool, true, false, not}
use mathlib.Core.List.{List, [], ◌∷◌, map}
use mathlib.Core.Option.{Option, none, some}
use Prim.Native.Nat.{ℕ}
use borrow.Author.Tests.{eqb-true}
use lib.Dec.{eqb, ltb}
use lib.ListN.{length}
use Rattle.std.specs.Prelude.{if◌then◌else◌}
use Rattle.queue_model.specs.Refusals.{first_refusal, ◌when◌}
use Rattle.receiver_model.specs.Types.{Chunk, Assembled, Receiver, refused, accepted, repeated, fetched, Step, reply}
use Rattle.receiver_model.specs.Receive as model
use Rattle.receiver_model.specs.Receive.{repeats, differs, same_kind, accept, refused_or, receive_chunk, receive_new, early_checks, late_checks}
use Rattle.receiver_model.specs.Fetch as fetching
use Rattle.receiver_model.specs.Fetch.{as_message, with_ready, fetch_from}
use Rattle.receiver_model.specs.Run.{Call, receive, fetch, step, run, from_answer, came_out}
use Rattle.receiver_model.specs.Claim.{Move, arrive, take, Accepted, AllAccepted, arrivals, as_call, OnlySent}
use Rattle.receiver_model.proofs.Lists.{none≢some}
use Rattle.receiver_runs.specs.Safety.{OneOf}
use Rattle.receiver_runs.proofs.Came.{store_kept}

-- ------------------------------------------------------------------ one call

-- A step is a refusal that changes nothing, or no refusal.
data Judged (r : Receiver) (s : Step) : Type 0 where
  refuses : (n : ℕ) → s ≡ reply (refused n) r → Judged r s
  accepts : Accepted s.answer → Judged r s

judged_or : (o : Option ℕ) (r : Receiver) (s : Step) → Judged r s → Judged r (refused_or o r s)
unfolding refused_or
judged_or none r s j = j
judged_or (some n) r s j = refuses n refl

judged_chunk : (c : Chunk) (r : Receiver) → Judged r (receive_chunk c r)
unfolding receive_chunk receive_new
judged_chunk c r = go (repeats c r)
  where
    go : (b : Bool) → Judged r (if b then reply repeated r else receive_new c r)
    go true = accepts tt
    go false = judged_or (first_refusal (late_checks c r)) r (reply accepted (accept c r)) (accepts tt)

judged_from : (b : ℕ) (rs : List Assembled) (r : Receiver) → Judged r (fetch_from b rs r)
unfolding fetch_from
judged_from b [] r = accepts tt
judged_from b (a ∷ more) r = judged_or (first_refusal ((10 when ltb b (length (as_message a).payload)) ∷ [])) r (reply (fetched (as_message a)) (with_ready more r)) (accepts tt)

-- The store that a call is lent has the creation's length where the first check passes.
first_passes : (b : Bool) (more : Option ℕ) → (if not b then some 2 else more) ≡ none → b ≡ true
first_passes true more e = refl
first_passes false more e = absurd (none≢some e refl)

-- A call that is refused and changes nothing; or a chunk arrives, or a message is fetched, with the store as left, and it is not refused.
data Does (c : Call) (r : Receiver) : Type 0 where
  nothing : (n : ℕ) → step c r ≡ reply (refused n) r → Does c r
  arrives : (d : Chunk) → c ≡ receive r.store_length (some d) → Accepted (step c r).answer → Does c r
  takes : (b : ℕ) → c ≡ fetch r.store_length b → Accepted (step c r).answer → Does c r

does_receive : (n : ℕ) (d : Chunk) (r : Receiver) → Does (receive n (some d)) r
unfolding step model.receive first_refusal refused_or
does_receive n d r = go (first_refusal (early_checks n d r)) refl (judged_chunk d r)
  where
    go : (o : Option ℕ) → first_refusal (early_checks n d r) ≡ o → Judged r (receive_chunk d r) → Does (receive n (some d)) r
    go (some m) e j = nothing m (ap (λ (x : Option ℕ). refused_or x r (receive_chunk d r)) e)
    go none e (refuses m f) = nothing m (ap (λ (x : Option ℕ). refused_or x r (receive_chunk d r)) e ∙ f)
    go none e (accepts f) =
        arrives d (ap (λ (x : ℕ). receive x (some d)) (eqb-true n r.store_length (first_passes (eqb n r.store_length) (if not (same_kind d.kind r.kind) then some 19 else (if differs d r then some 24 else none)) e)))
        (subst (λ (x : Option ℕ). Accepted (refused_or x r (receive_chunk d r)).answer) (sym e) f)

does_none : (n : ℕ) (r : Receiver) → Does (receive n none) r
unfolding step model.receive refused_or
does_none n r = go (first_refusal ((2 when not (eqb n r.store_length)) ∷ [])) refl
  where
    go : (o : Option ℕ) → first_refusal ((2 when not (eqb n r.store_length)) ∷ []) ≡ o → Does (receive n none) r
    go none e = nothing 19 (ap (λ (x : Option ℕ). refused_or x r (reply (refused 19) r)) e)
    go (some m) e = nothing m (ap (λ (x : Option ℕ). refused_or x r (reply (refused 19) r)) e)

does_fetch : (n b : ℕ) (r : Receiver) → Does (fetch n b) r
unfolding step fetching.fetch first_refusal refused_or
does_fetch n b r = go (first_refusal ((2 when not (eqb n r.store_length)) ∷ [])) refl (judged_from b r.ready r)
  where
    go : (o : Option ℕ) → first_refusal ((2 when not (eqb n r.store_length)) ∷ []) ≡ o → Judged r (fetch_from b r.ready r) → Does (fetch n b) r
    go (some m) e j = nothing m (ap (λ (x : Option ℕ). refused_or x r (fetch_from b r.ready r)) e)
    go none e (refuses m f) = nothing m (ap (λ (x : Option ℕ). refused_or x r (fetch_from b r.ready r)) e ∙ f)
    go none e (accepts f) =
        takes b (ap (λ (x : ℕ). fetch x b) (eqb-true n r.store_length (first_passes (eqb n r.store_length) none e)))
        (subst (λ (x : Option ℕ). Accepted (refused_or x r (fetch_from b r.ready r)).answer) (sym e) f)

does : (c : Call) (r : Receiver) → Does c r
does (receive n none) r = does_none n r
does (receive n (some d)) r = does_receive n d r
does (fetch n b) r = does_fetch n b r

-- ------------------------------------------------------------------ lists of calls

module _ (chunk : ℕ → Chunk) (total store : ℕ) where
  -- Every chunk that a call is given was sent.
  abbrev pub Sent : Call → Type 0
  Sent (receive n none) = Unit {0}
  Sent (receive n (some c)) = OneOf chunk total c
  Sent (fetch n b) = Unit {0}

  abbrev pub AllSent : List Call → Type 0
  AllSent [] = Unit {0}
  AllSent (c ∷ cs) = Sent c × AllSent cs

  -- The calls that are not refused, as moves; what comes out is the same.
  pub record Kept (cs : List Call) (r : Receiver) : Type 0 where
    pub moves : List Move
    pub only : OnlySent total (arrivals moves)
    pub accepted : AllAccepted (run (map (as_call chunk store) moves) r)
    pub same_out : came_out (run cs r) ≡ came_out (run (map (as_call chunk store) moves) r)

  kept_none : (r : Receiver) → Kept [] r
  unfolding run came_out arrivals
  kept_none r = record { moves = []; only = tt; accepted = tt; same_out = refl }

  kept_refused : (c : Call) (cs : List Call) (r : Receiver) (n : ℕ) → step c r ≡ reply (refused n) r → Kept cs r → Kept (c ∷ cs) r
  unfolding run came_out from_answer step
  kept_refused c cs r n e k = record {
    moves = k.moves;
    only = k.only;
    accepted = k.accepted;
    same_out = ap (λ (s : Step). from_answer s.answer (came_out (run cs s.next))) e ∙ k.same_out;
  }

  kept_move : (c : Call) (cs : List Call) (r : Receiver) (m : Move) → c ≡ as_call chunk store m → Accepted (step c r).answer → (k : Kept cs (step c r).next) → OnlySent total (arrivals (m ∷ k.moves)) → Kept (c ∷ cs) r
  unfolding run came_out from_answer
  kept_move c cs r m e a k o = record {
    moves = m ∷ k.moves;
    only = o;
    accepted = subst (λ (d : Call). Accepted (step d r).answer × AllAccepted (run (map (as_call chunk store) k.moves) (step d r).next)) e (a, k.accepted);
    same_out = ap (from_answer (step c r).answer) k.same_out ∙ ap (λ (d : Call). from_answer (step d r).answer (came_out (run (map (as_call chunk store) k.moves) (step d r).next))) e;
  }

  kept_more : (c : Call) (cs : List Call) (r : Receiver) → r.store_length ≡ store → Sent c → ((q : Receiver) → q.store_length ≡ store → Kept cs q) → Does c r → Kept (c ∷ cs) r
  unfolding arrivals
  kept_more c cs r e h again (nothing n f) = kept_refused c cs r n f (again r e)
  kept_more c cs r e h again (arrives d f a) =
      let i : OneOf chunk total d = subst Sent f h in
      let k = again (step c r).next (store_kept c r ∙ e) in
      kept_move c cs r (arrive i.index) (f ∙ ap (λ (n : ℕ). receive n (some d)) e ∙ ap (λ (x : Chunk). receive store (some x)) i.is) a k (i.known, k.only)
  kept_more c cs r e h again (takes b f a) =
      let k = again (step c r).next (store_kept c r ∙ e) in
      kept_move c cs r (take b) (f ∙ ap (λ (n : ℕ). fetch n b) e) a k k.only

  pub kept : (cs : List Call) (r : Receiver) → r.store_length ≡ store → AllSent cs → Kept cs r
  kept [] r e h = kept_none r
  kept (c ∷ cs) r e h = kept_more c cs r e h.0 (λ q f. kept cs q f h.1) (does c r)
