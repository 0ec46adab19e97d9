-- Where a stream is: in the words, and among the model's streams. Assumes nothing.
use mathlib.Core.Path.{◌≡◌, sym, ◌∙◌, subst}
use mathlib.Core.Bool.{false}
use mathlib.Core.List.{List}
use mathlib.Core.Option.{none, some}
use Prim.Native.Nat.{ℕ, zero, suc, ◌≤◌, ◌<◌}
use native.Mathlib.Omega.{arith}
use borrow.Author.Tests.{lt-ltb, le-ltb}
use lib.Dec.{leb}
use lib.ListN.{length}
use Rattle.queue_words.specs.Header.{options_at, totals_at}
use Rattle.queue_words.specs.Known.{id_at}
use Rattle.queue_words.specs.Find.{find_stream_words}
use Rattle.queue_words.specs.declared.known.Found.TheVariants.{At, Gap}
use Rattle.queue_words.proofs.Finds.{find_at, find_gap, NotKnown}
use Rattle.queue_model.specs.Logic.{is_some}
use Rattle.queue_model.specs.Types.{Stream}
use Rattle.queue_model.specs.Streams.{find_stream, stream_key, stream_at, new_stream, too_many}
use Rattle.queue_model.proofs.Streams.{at_found, at_new}
use Rattle.queue_streams.specs.Known.{look_up}
use Rattle.queue_streams.specs.Place as place
use Rattle.queue_state.specs.Model.{row_at, options_of, stream_in, streams_in, model, tab}
use Rattle.queue_state.specs.Good.{Shape}
use Rattle.queue_state.proofs.Tabs.{tab_find, tab_none, tab_length}
use Rattle.queue_state.proofs.Frames.{row_below, stream_key_in}
use Rattle.queue_state.proofs.Steps.{rises}
use Rattle.payload_store.proofs.Cases.{by_index}

-- A known stream, in position i; or a stream that belongs at position p.
pub data Lookup (ws st : List ℕ) (id : ℕ) : Type 0 where
  known_at_lem : (i : ℕ) → i < (totals_at ws).known → id_at ws i ≡ id → find_stream_words ws id ≡ At i (row_at ws i) → find_stream id (streams_in ws st) ≡ some (stream_in ws st i) → Lookup ws st id
  new_at : (p : ℕ) → p ≤ (totals_at ws).known → ((j : ℕ) → j < p → id_at ws j < id) → ((j : ℕ) → p ≤ j → j < (totals_at ws).known → id < id_at ws j) → find_stream_words ws id ≡ Gap p → find_stream id (streams_in ws st) ≡ none → Lookup ws st id

data Holder (ws : List ℕ) (id n : ℕ) : Type 0 where
  held : (j : ℕ) → j < n → id_at ws j ≡ id → Holder ws id n
  unheld : ((j : ℕ) → j < n → id_at ws j ≡ id → ⊥) → Holder ws id n

holder : (ws : List ℕ) (id n : ℕ) → Holder ws id n
holder ws id zero = unheld (λ j h e. omega arith)
holder ws id (suc n) = by_index (id_at ws n) id (λ e. held n (omega arith) e) (λ ne. before ne (holder ws id n))
  where
    before : (id_at ws n ≡ id → ⊥) → Holder ws id n → Holder ws id (suc n)
    before ne (held j h e) = held j (omega arith) e
    before ne (unheld f) = unheld (λ j h e. by_index j n (λ z. ne (subst (λ k. id_at ws k ≡ id) z e)) (λ nz. f j (omega arith) e))

module _ (ws st : List ℕ) (g : Shape ws st) where
  pub found_at : (i : ℕ) → i < (totals_at ws).known → find_stream (id_at ws i) (streams_in ws st) ≡ some (stream_in ws st i)
  unfolding streams_in
  found_at i h =
      let e : (stream_in ws st i).id ≡ id_at ws i = stream_key_in ws st i in
      subst (λ k. find_stream k (tab (stream_in ws st) (totals_at ws).known) ≡ some (stream_in ws st i)) e
      (tab_find stream_key (stream_in ws st) (totals_at ws).known i (rises ws st g) h)

  missing_of : (id : ℕ) → ((j : ℕ) → j < (totals_at ws).known → id_at ws j ≡ id → ⊥) → find_stream id (streams_in ws st) ≡ none
  unfolding streams_in
  missing_of id f = tab_none stream_key (stream_in ws st) (totals_at ws).known id (λ j h e. f j h (sym (stream_key_in ws st j) ∙ e))

  pub lookup : (id : ℕ) → Lookup ws st id
  lookup id = go (holder ws id (totals_at ws).known)
    where
      go : Holder ws id (totals_at ws).known → Lookup ws st id
      go (held i h e) = known_at_lem i h e (find_at ws id g.rising g.known_fits i h e (row_below ws st g i h)) (subst (λ k. find_stream k (streams_in ws st) ≡ some (stream_in ws st i)) e (found_at i h))
      go (unheld f) =
          let n : NotKnown ws id = find_gap ws id g.known_fits f in
          new_at n.at n.missed.among (n.missed.below g.rising) (n.missed.above g.rising) n.found (missing_of id f)

  pub streams_length : length (streams_in ws st) ≡ (totals_at ws).known
  unfolding streams_in
  streams_length = tab_length (stream_in ws st) (totals_at ws).known

-- ---- what the model says of the two

pub stream_found : (ws st : List ℕ) (id : ℕ) (s : Stream) → find_stream id (streams_in ws st) ≡ some s → stream_at (model ws st) id ≡ s
unfolding model
stream_found ws st id s e = at_found (options_of (options_at ws)) (streams_in ws st) id s e

pub stream_new : (ws st : List ℕ) (id : ℕ) → find_stream id (streams_in ws st) ≡ none → stream_at (model ws st) id ≡ new_stream (options_of (options_at ws)) id
unfolding model
stream_new ws st id e = at_new (options_of (options_at ws)) (streams_in ws st) id e

pub not_too_many : (ws st : List ℕ) (id : ℕ) (s : Stream) → find_stream id (streams_in ws st) ≡ some s → too_many (model ws st) id ≡ false
unfolding too_many model is_some
not_too_many ws st id s e = rw e

pub too_many_new : (ws st : List ℕ) (id : ℕ) (g : Shape ws st) → find_stream id (streams_in ws st) ≡ none → too_many (model ws st) id ≡ leb 256 (totals_at ws).known
unfolding too_many model is_some
too_many_new ws st id g e = rw (e, streams_length ws st g)

-- ---- what the search for a place says

pub look_row : (ws : List ℕ) (id i r : ℕ) → find_stream_words ws id ≡ At i r → look_up ws id ≡ place.Row r
unfolding look_up
look_row ws id i r e = rw e

pub look_new : (ws : List ℕ) (id p : ℕ) → find_stream_words ws id ≡ Gap p → (totals_at ws).known < 256 → look_up ws id ≡ place.New p
unfolding look_up
look_new ws id p e h = rw (e, le-ltb 255 (totals_at ws).known (omega arith))

pub look_full : (ws : List ℕ) (id p : ℕ) → find_stream_words ws id ≡ Gap p → 256 ≤ (totals_at ws).known → look_up ws id ≡ place.Refused 6
unfolding look_up
look_full ws id p e h = rw (e, lt-ltb 255 (totals_at ws).known (omega arith))
