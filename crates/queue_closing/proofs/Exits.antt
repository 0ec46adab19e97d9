-- Ways out of closing, over plain values. Assumes nothing.
use mathlib.Core.Path.{◌≡◌, sym, ap, subst, ◌∙◌}
use mathlib.Core.Bool.{Bool, true, false}
use mathlib.Core.List.{List}
use Prim.Native.Nat.{ℕ, ◌≤◌, ◌<◌}
use borrow.Author.Tests.{lt-ltb, le-ltb}
use lib.ListN.{length}
use Rattle.queue_words.specs.Header.{options_at}
use Rattle.queue_words.specs.declared.header.Options.{Options}
use Rattle.queue_words.specs.declared.streams.OutgoingStream.{OutgoingStream}
use Rattle.stream_scheduler.specs.Words.{Outcome, outcome, remove_stream_words}
use Rattle.stream_scheduler.specs.Link.{Untouched}
use Rattle.stream_scheduler.proofs.Frames.{kept_remove, untouched_remove}
use Rattle.queue_streams.specs.Events.{event_words}
use Rattle.queue_streams.specs.Known.{new_stream_words, look_up, inserted}
use Rattle.queue_streams.specs.Settings.{CalledWith, called_with}
use Rattle.queue_streams.specs.Call.{Accepted, Refused}
use Rattle.queue_streams.specs.Place.{Place}
use Rattle.queue_streams.specs.Place as place
use Rattle.queue_closing.specs.Walk.{may_sweep}
use Rattle.queue_closing.specs.Sweep.{Goes}
use Rattle.queue_closing.specs.Close.{close_whole, close_in, paused_new, close}
use Rattle.queue_closing.proofs.Going.{sweep_goes}

-- Where it ends the stream's waiting, the messages may go as they might before.
pub ended_goes : (ws : List ℕ) (id place amount : ℕ) (b r : Bool) (l : List ℕ) → b ≡ may_sweep ws place amount → b ≡ true → outcome r l ≡ remove_stream_words ws id → Goes l place 1024
ended_goes ws id place amount b r l eb hb eo =
    let u = subst (Untouched ws) (ap (λ (o : Outcome). o.next) (sym eo)) (untouched_remove ws id) in
    sweep_goes ws l place amount u (sym eb ∙ hb)

-- Where the scheduler refuses to end the stream's waiting, it has changed nothing.
pub whole_refused : (ws es : List ℕ) (id row : ℕ) (s : OutgoingStream) (b r : Bool) (l : List ℕ) → b ≡ may_sweep ws s.first s.buffered_amount → b ≡ true → outcome r l ≡ remove_stream_words ws id
    → r ≡ false → called_with (Refused 16) l es ≡ close_whole ws es id row s
unfolding close_whole
whole_refused ws es id row s b r l eb hb eo hr =
    let k : l ≡ ws = ap (λ (o : Outcome). o.next) eo ∙ (kept_remove ws id).if_refused (ap (λ (o : Outcome). o.done) (sym eo) ∙ hr) in
    ap (λ (x : List ℕ). called_with (Refused 16) x es) k ∙ sym (rw (← eb, hb, ← eo, hr))

-- A stream that was not known.
pub paused_made : (ws : List ℕ) (position id : ℕ) (o : Options) (s : OutgoingStream) (l : List ℕ) → o ≡ options_at ws → s ≡ new_stream_words o → l ≡ inserted ws position id (paused_new s)
    → l ≡ inserted ws position id (paused_new (new_stream_words (options_at ws)))
paused_made ws position id o s l eo es el = rw (el, es, eo)

pub closed_few : (ws es : List ℕ) (id : ℕ) → length es < event_words → called_with (Refused 3) ws es ≡ close ws es id
unfolding close
closed_few ws es id h = rw (lt-ltb _ _ h)

module _ (ws es : List ℕ) (id : ℕ) (h : event_words ≤ length es) (r : Place) (er : r ≡ look_up ws id) where
  pub closed_row : (row : ℕ) (c : CalledWith) → r ≡ place.Row row → c ≡ close_in ws es id row → c ≡ close ws es id
  unfolding close
  closed_row row c e ec = ec ∙ rw (le-ltb _ _ h, ← er, e)

  pub closed_new : (position : ℕ) (l : List ℕ) → r ≡ place.New position → l ≡ inserted ws position id (paused_new (new_stream_words (options_at ws))) → called_with (Accepted 0) l es ≡ close ws es id
  unfolding close
  closed_new position l e el = rw (le-ltb _ _ h, ← er, e, el)

  pub closed_refused : (n : ℕ) → r ≡ place.Refused n → called_with (Refused n) ws es ≡ close ws es id
  unfolding close
  closed_refused n e = rw (le-ltb _ _ h, ← er, e)
