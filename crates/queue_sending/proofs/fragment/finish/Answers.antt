-- `queue_sending::fragment::finish` meets its contract: what it leaves is what its definition says, by what the calls ensure. Assumes nothing.
use mathlib.Core.Path.{◌≡◌, ap, ap₂, ◌∙◌}
use mathlib.Core.Bool.{Bool}
use mathlib.Core.List.{List}
use Prim.Native.Nat.{ℕ, ◌<◌}
use Rattle.queue_words.specs.Header.{totals_at}
use Rattle.queue_words.specs.Streams.{put_stream_words}
use Rattle.queue_words.specs.declared.active.SchedulingParameters.{SchedulingParameters}
use Rattle.queue_words.specs.declared.header.Totals.{Totals}
use Rattle.queue_words.specs.declared.items.Item.{Item}
use Rattle.queue_words.specs.declared.streams.OutgoingStream.{OutgoingStream}
use Rattle.queue_words.specs.declared.streams.PauseState.{PauseState}
use Rattle.payload_store.specs.Dropping.{drop_code_words}
use Rattle.stream_scheduler.specs.Anew.{accept_last_words}
use Rattle.stream_scheduler.specs.Words.{Outcome, outcome}
use Rattle.stream_scheduler.proofs.BeginsAnew.{untouched_last}
use Rattle.queue_streams.specs.Waiting.{head_size_words, parameters_for}
use Rattle.message_chains.specs.Dropping.{end_pending_words}
use Rattle.message_chains.specs.Heads.{released, without_head}
use Rattle.message_chains.proofs.Goes.{drop_untouched}
use Rattle.queue_sending.specs.Fragment.{next_first, finished, waiting_on}
use Rattle.queue_sending.proofs.fragment.finish.Goals as goal

-- Over plain values.
the_end : (ws : List ℕ) (at id row : ℕ) (s : OutgoingStream) (m : Item) (n : ℕ) (state : PauseState) (t : Totals) (first bytes : ℕ) (p : SchedulingParameters) (r : Bool) (u v : List ℕ) (o : OutgoingStream) (w : List ℕ)
    → state ≡ end_pending_words s.pause_state → t ≡ totals_at ws → first ≡ next_first state m.next → bytes ≡ head_size_words ws first → p ≡ parameters_for t.interleaving s.priority
    → outcome r u ≡ accept_last_words ws at id n bytes p → v ≡ released u s.first n → o ≡ without_head s state m.next n → w ≡ put_stream_words v row o → w ≡ finished ws at id row s m n
unfolding finished waiting_on
the_end ws at id row s m n state t first bytes p r u v o w es et ef eb ep eu ev eo ew =
    let b : bytes ≡ head_size_words ws (next_first (end_pending_words s.pause_state) m.next) = eb ∙ ap (head_size_words ws) (ef ∙ ap (λ (x : PauseState). next_first x m.next) es) in
    let q : p ≡ parameters_for (totals_at ws).interleaving s.priority = ep ∙ ap (λ (x : Totals). parameters_for x.interleaving s.priority) et in
    let a : u ≡ waiting_on ws at id s m.next n = ap (λ (x : Outcome). x.next) eu ∙ ap₂ (λ (x : ℕ) (y : SchedulingParameters). (accept_last_words ws at id n x y).next) b q in
    ew ∙ ap₂ (λ (x : List ℕ) (y : OutgoingStream). put_stream_words x row y) (ev ∙ ap (λ (x : List ℕ). released x s.first n) a) (eo ∙ ap (λ (x : PauseState). without_head s x m.next n) es)

-- The scheduler touches no message: it may still go.
still_goes : (ws : List ℕ) (at id n bytes i : ℕ) (p : SchedulingParameters) (r : Bool) (u : List ℕ) → i < 1024
    → outcome r u ≡ accept_last_words ws at id n bytes p → drop_code_words ws i ≡ 0 → drop_code_words u i ≡ 0
still_goes ws at id n bytes i p r u h e z =
    ap (λ (o : Outcome). drop_code_words o.next i) e ∙ drop_untouched ws (accept_last_words ws at id n bytes p).next i h (untouched_last ws at id n bytes p) ∙ z

pub release-requires : goal.release-requires
release-requires c =
    let p = c.requires in
    (p.1, still_goes _ _ _ _ _ _ _ _ _ p.1 c.accept_last_own.ensures p.3)

pub returns : goal.returns
returns c =
    the_end _ _ _ _ _ _ _ _ _ _ _ _ _ _ _ _ _ c.end_pending-after.ensures c.load_totals-t.ensures c.next_first-first.ensures c.head_size-bytes.ensures c.parameters_for-p.ensures
    c.accept_last_own.ensures c.release.ensures c.without_head-o.ensures c.store_stream.ensures
