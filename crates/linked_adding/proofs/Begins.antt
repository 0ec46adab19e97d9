-- Adding a message to a known stream, from any words that hold together: the whole step. Assumes nothing.
use mathlib.Core.Path.{◌≡◌, refl, sym, ◌∙◌, subst}
use mathlib.Core.Bool.{Bool, true, false, not, ◌&&◌}
use mathlib.Core.List.{List, [], ◌∷◌, ◌++◌}
use mathlib.Core.Option.{none}
use Prim.Native.Nat.{ℕ, ◌≤◌, ◌<◌}
use native.Mathlib.Omega.{arith}
use borrow.Author.Tests.{lt-ltb, le-ltb, ltb-true}
use lib.Dec.{ltb}
use Rattle.queue_words.specs.Flags.{pick}
use Rattle.queue_words.specs.Header.{options_at, totals_at}
use Rattle.queue_words.specs.declared.streams.OutgoingStream.{OutgoingStream}
use Rattle.queue_words.specs.declared.streams.PauseState.{PauseState}
use Rattle.queue_words.specs.declared.streams.PauseState.TheVariants.{NotPaused, Pending, Paused, Resetting}
use Rattle.std.specs.Prelude.{if◌then◌else◌}
use Rattle.queue_model.specs.Types.{Stream, Scheduler}
use Rattle.queue_model.specs.Types as plain
use Rattle.queue_model.specs.Scheduler.{find_active}
use Rattle.queue_model.specs.Streams.{put_stream, some_items, has_items, head_size, weight_of, reschedule}
use Rattle.queue_model.specs.Add.{starts_waiting}
use Rattle.queue_model.proofs.Scheduler.{reschedule_of}
use Rattle.queue_model.proofs.Tests.{holds}
use Rattle.stream_scheduler.specs.Link.{model_scheduler}
use Rattle.stream_scheduler.specs.Rows.{weight_of_words}
use Rattle.stream_scheduler.specs.Words.{begin_waiting, set_bytes_remaining_words}
use Rattle.stream_scheduler.proofs.Begins.{begin_is_set}
use Rattle.queue_streams.specs.Waiting.{parameters_for}
use Rattle.queue_state.specs.Chains.{Linked, each}
use Rattle.queue_state.specs.Model.{next_of, item_in_words, pause_of, stream_of, streams_in}
use Rattle.queue_state.specs.Good.{Shape}
use Rattle.queue_state.proofs.Rooms.{KnownTo, Listing, AllKnown, known_put, known_own, listing_streams, set_known}
use Rattle.queue_messages.specs.Add.{may_start, starts, started}

-- ---- when a stream begins to wait

pause_waits : (p : PauseState) (b : Bool) → (starts_waiting (pause_of p) && b) ≡ pick (may_start p) b false
unfolding starts_waiting pause_of
pause_waits NotPaused b = refl
pause_waits Pending b = refl
pause_waits Paused b = refl
pause_waits Resetting b = refl

first_empty : (nx : ℕ → ℕ) (f : ℕ → plain.Item) (first : ℕ) (ps : List ℕ) → Linked nx first ps → not (some_items (each f ps)) ≡ ltb 1023 first
unfolding some_items
first_empty nx f first [] l = rw (lt-ltb 1023 first (omega arith))
first_empty nx f first (x ∷ xs) l = rw (le-ltb 1023 first (omega arith))

-- the words' test is the model's
pub starts_is : (ws st : List ℕ) (id : ℕ) (s : OutgoingStream) (ps : List ℕ) → Linked (next_of ws) s.first ps
    → (starts_waiting (stream_of id s (each (item_in_words ws st) ps)).pause_state && not (has_items (stream_of id s (each (item_in_words ws st) ps)))) ≡ starts s
unfolding starts has_items
starts_is ws st id s ps l =
    rw (first_empty (next_of ws) (item_in_words ws st) s.first ps l) (pause_waits s.pause_state (ltb 1023 s.first))

-- a stream that begins to wait had no messages
pub starts_none : (s : OutgoingStream) → starts s ≡ true → 1024 ≤ s.first
unfolding starts
starts_none s e = go (may_start s.pause_state) e
  where
    go : (b : Bool) → pick b (ltb 1023 s.first) false ≡ true → 1024 ≤ s.first
    go true e = ltb-true 1023 s.first e
    go false e = absurd (holds false e)

weight_is : (il : Bool) (s : Stream) → weight_of_words (parameters_for il s.priority) ≡ weight_of il s
unfolding weight_of
weight_is true s = refl
weight_is false s = refl

pub size_one : (is : List plain.Item) (i : plain.Item) → is ≡ [] → head_size (is ++ (i ∷ [])) ≡ plain.remaining i
unfolding head_size
size_one is i e = rw e

-- ---- the scheduler after the message

-- what is set leaves the known streams known
pub put_known : (ws st us ut : List ℕ) (s : Stream) → streams_in us ut ≡ put_stream s (streams_in ws st) → model_scheduler us ≡ model_scheduler ws → AllKnown ws st → AllKnown us ut × KnownTo (streams_in us ut) s.id
put_known ws st us ut s e f a = (
  subst (λ (ss : List Stream). Listing ss (model_scheduler us).active) (sym e)
      (subst (λ (sc : Scheduler). Listing (put_stream s (streams_in ws st)) sc.active) (sym f) (listing_streams (streams_in ws st) (put_stream s (streams_in ws st)) (model_scheduler ws).active (λ id k. known_put s (streams_in ws st) id k) a)),
  subst (λ (ss : List Stream). KnownTo ss s.id) (sym e) (known_own s (streams_in ws st)),
)

-- What the step of the scheduler leaves alone, and what it does.
pub record Begun (us ut : List ℕ) (vs : List ℕ) (sc : Scheduler) : Type 0 where
  pub shape : Shape vs ut
  pub options : options_at vs ≡ options_at us
  pub totals : totals_at vs ≡ totals_at us
  pub streams : streams_in vs ut ≡ streams_in us ut
  pub scheduler : model_scheduler vs ≡ sc

-- from the words us, in which the stream s' has the new message, of n bytes; o is its row before
pub begun : (us ut : List ℕ) (g : Shape us ut) (o : OutgoingStream) (s' : Stream) (n : ℕ) → AllKnown us ut → KnownTo (streams_in us ut) s'.id → o.priority ≡ s'.priority → s'.priority < 65536
    → 1 ≤ n → (starts o ≡ true → find_active s'.id (model_scheduler us).active ≡ none) → (starts o ≡ true → head_size s'.items ≡ n)
    → Begun us ut (started us s'.id o n) (if starts o then reschedule (totals_at us).interleaving s' (model_scheduler us) else model_scheduler us)
unfolding started
begun us ut g o s' n a k ep hp some idle hs = go (starts o) refl
  where
    go : (b : Bool) → starts o ≡ b
        → Begun us ut (pick b (begin_waiting us s'.id n (parameters_for (totals_at us).interleaving o.priority)).next us) (if b then reschedule (totals_at us).interleaving s' (model_scheduler us) else model_scheduler us)
    go false e = record { shape = g; options = refl; totals = refl; streams = refl; scheduler = refl }
    go true e =
        let r = set_known us ut g a s'.id k n (totals_at us).interleaving s'.priority hp in
        let c : model_scheduler (set_bytes_remaining_words us s'.id n (parameters_for (totals_at us).interleaving s'.priority)).next ≡ reschedule (totals_at us).interleaving s' (model_scheduler us) =
        r.scheduler
        ∙ rw (weight_is (totals_at us).interleaving s', ← hs e) (sym (reschedule_of (totals_at us).interleaving s' (model_scheduler us))) in
        rw (ep, begin_is_set us g.schedules s'.id (idle e) n (parameters_for (totals_at us).interleaving s'.priority) some) (record {
          shape = r.unmoved.shape;
          options = r.untouched.same_options;
          totals = r.untouched.same_totals;
          streams = r.unmoved.streams;
          scheduler = c;
        })
