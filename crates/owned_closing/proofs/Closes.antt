-- On the words of a queue an open stream may be closed. Assumes nothing.
use mathlib.Core.Path.{◌≡◌, refl, sym, ap, ◌∙◌, subst}
use mathlib.Core.Bool.{Bool, true, false}
use mathlib.Core.List.{List, [], ◌∷◌}
use Prim.Native.Nat.{ℕ, ◌≤◌, ◌<◌}
use native.Mathlib.Omega.{arith}
use lib.ListN.{length}
use Rattle.queue_words.specs.Header.{totals_at}
use Rattle.queue_words.specs.Items.{item_at}
use Rattle.queue_words.specs.Known.{id_at}
use Rattle.queue_words.specs.Streams.{is_open, stream_at_words, put_stream_words, with_pause}
use Rattle.queue_words.specs.declared.items.Item.{Item}
use Rattle.queue_words.specs.declared.streams.OutgoingStream.{OutgoingStream}
use Rattle.queue_words.specs.declared.streams.PauseState.{PauseState}
use Rattle.queue_words.specs.declared.streams.PauseState.TheVariants.{NotPaused, Pending, Paused, Resetting}
use Rattle.queue_words.proofs.Finds.{by_lt}
use Rattle.queue_words.proofs.Laws
use Rattle.queue_model.specs.Demands.{Typed}
use Rattle.queue_model.specs.Run as run
use Rattle.queue_model.proofs.Tests.{holds}
use Rattle.stream_scheduler.specs.Words.{Outcome, outcome, remove_stream_words}
use Rattle.stream_scheduler.proofs.Link.{remove_link}
use Rattle.stream_scheduler.proofs.Frames.{untouched_same}
use Rattle.queue_streams.specs.Events.{event_words, places_in}
use Rattle.queue_streams.specs.Known.{look_up}
use Rattle.queue_streams.specs.Settings.{CalledWith, called_with}
use Rattle.queue_streams.specs.Call.{Accepted}
use Rattle.queue_streams.specs.Place as place
use Rattle.queue_closing.specs.Walk.{may_sweep}
use Rattle.queue_closing.specs.Sweep.{sweep_from, Goes}
use Rattle.queue_closing.specs.Close.{whole_left, behind_left, close_open_words}
use Rattle.queue_closing.proofs.Going.{sweep_goes}
use Rattle.queue_closing.proofs.Exits.{ended_goes}
use Rattle.queue_state.specs.Chains.{Linked}
use Rattle.queue_state.specs.Model.{next_of, row_at}
use Rattle.queue_state.specs.Good.{Good}
use Rattle.queue_state.proofs.Chains.{linked_le}
use Rattle.queue_state.proofs.Frames.{row_below}
use Rattle.queue_state.proofs.Heads.{head_first}
use Rattle.queue_state.proofs.Looks.{Lookup, known_at_lem, new_at, lookup, look_row, look_new, look_full}
use Rattle.linked_dropping.proofs.Closes.{open_empty, open_behind, open_whole, behind_goes, whole_goes, may_behind, may_whole}
use Rattle.owned_streams.specs.Own.{OwnWords}
use Rattle.owned_closing.specs.Own.{MayClose}

open_is : (p : PauseState) → is_open p ≡ true → p ≡ NotPaused
open_is NotPaused o = refl
open_is Pending o = absurd (holds false o)
open_is Paused o = absurd (holds false o)
open_is Resetting o = absurd (holds false o)

-- ---- from good words

module _ (ws st es : List ℕ) (g : Good ws st) (i : ℕ) (hk : i < (totals_at ws).known) (t : Typed (run.close (places_in es) (id_at ws i))) (long : event_words ≤ length es) where
  abbrev s : OutgoingStream
  s = stream_at_words ws (row_at ws i)

  empty : g.shape.q i ≡ [] → s.first < 1024 → ⊥
  empty eq h = let f : s.first ≡ 1024 = subst (Linked (next_of ws) s.first) eq (g.shape.rows i hk).linked in omega arith

  behind_may : (ps : List ℕ) → g.shape.q i ≡ ps → s.pause_state ≡ NotPaused → s.first < 1024 → may_sweep ws (next_of ws s.first) s.buffered_amount ≡ true
  behind_may [] eq o h = absurd (empty eq h)
  behind_may (x ∷ xs) eq o h =
      subst (λ (y : ℕ). may_sweep ws (next_of ws y) s.buffered_amount ≡ true) (sym (head_first ws st g.shape i hk x xs eq)) (may_behind ws st es g i hk t long x xs eq o)

  whole_may : (ps : List ℕ) → g.shape.q i ≡ ps → s.pause_state ≡ NotPaused → s.first < 1024 → (item_at ws s.first).offset ≡ 0 → may_sweep ws s.first s.buffered_amount ≡ true
  whole_may [] eq o h z = absurd (empty eq h)
  whole_may (x ∷ xs) eq o h z = may_whole ws st es g i hk t long x xs eq o (subst (λ (y : ℕ). (item_at ws y).offset ≡ 0) (head_first ws st g.shape i hk x xs eq) z)

  at_row : is_open s.pause_state ≡ true → MayClose ws (id_at ws i) (row_at ws i) s
  at_row o = record {
    row_fits = row_below ws st g.shape i hk;
    first_fits = linked_le (next_of ws) s.first (g.shape.q i) (g.shape.rows i hk).linked;
    behind = λ h l. behind_may (g.shape.q i) refl (open_is s.pause_state o) h;
    whole = λ h l. whole_may (g.shape.q i) refl (open_is s.pause_state o) h (omega arith);
    ended = (remove_link ws g.shape.schedules (id_at ws i) (Laws.known_at_fits ws i).id_fits).step_done;
  }

-- What closing asks of a row that is looked up.
abbrev pub MayCloseIn : List ℕ → ℕ → ℕ → Type 0
MayCloseIn ws id row = (row < 256) × (is_open (stream_at_words ws row).pause_state ≡ true → MayClose ws id row (stream_at_words ws row))

pub may_close : (ws : List ℕ) (y : OwnWords ws) (es : List ℕ) (id row : ℕ) → event_words ≤ length es → id < 65536 → length es < 18446744073709551616 → look_up ws id ≡ place.Row row → MayCloseIn ws id row
may_close ws y es id row long hid hes e = go (lookup ws y.store y.good.shape id)
  where
    typed : Typed (run.close (places_in es) id)
    typed = (omega arith, hid)

    go : Lookup ws y.store id → MayCloseIn ws id row
    go (known_at_lem i hk ei f z) =
        let r : row_at ws i ≡ row = cc (e, look_row ws id i (row_at ws i) f) in
        subst (MayCloseIn ws id) r
        (subst (λ (n : ℕ). Typed (run.close (places_in es) n) → MayCloseIn ws n (row_at ws i)) ei (λ t. (row_below ws y.store y.good.shape i hk, at_row ws y.store es y.good i hk t long)) typed)
    go (new_at q hp lo hi f z) = absurd (by_lt (totals_at ws).known 256
        (λ few. let z : ◌≡◌ {A = ℕ} 0 1 = cc (e, look_new ws id q f few) in omega arith)
        (λ full. let z : ◌≡◌ {A = ℕ} 0 1 = cc (e, look_full ws id q f full) in omega arith))

-- ---- the ways out

-- where the stream has messages, its first place is one of the table
pub head_fits : (ws : List ℕ) (id row : ℕ) (s : OutgoingStream) → MayClose ws id row s → (s.first ≡ 1024 → ⊥) → s.first < 1024
head_fits ws id row s y ne = omega (arith, y.first_fits, ne)

-- every message that is dropped may go
module _ (ws : List ℕ) (id row : ℕ) (s : OutgoingStream) (y : MayClose ws id row s) (ne : s.first ≡ 1024 → ⊥) (m : Item) (em : m ≡ item_at ws s.first) where
  pub goes_behind : 0 < m.offset → Goes ws m.next 1024
  goes_behind h =
      let o : 0 < (item_at ws s.first).offset = rw em at h in
      let g = sweep_goes ws ws (item_at ws s.first).next s.buffered_amount (untouched_same ws) (y.behind (head_fits ws id row s y ne) o) in
      subst (λ (x : Item). Goes ws x.next 1024) (sym em) g

  pub goes_whole : (us : List ℕ) → m.offset ≤ 0 → outcome true us ≡ remove_stream_words ws id → Goes us s.first 1024
  goes_whole us h eu =
      let o : (item_at ws s.first).offset ≤ 0 = rw em at h in
      ended_goes ws id s.first s.buffered_amount true true us (sym (y.whole (head_fits ws id row s y ne) o)) refl eu

module _ (ws es : List ℕ) (id row : ℕ) (s : OutgoingStream) where
  pub closed_empty : (o : OutgoingStream) (l : List ℕ) → s.first ≡ 1024 → o ≡ with_pause s Paused → l ≡ put_stream_words ws row o → called_with (Accepted 0) l es ≡ close_open_words ws es id row s
  closed_empty o l e eo el = rw (el, eo) (sym (open_empty ws es id row s e))

  module _ (y : MayClose ws id row s) (ne : s.first ≡ 1024 → ⊥) (m : Item) (em : m ≡ item_at ws s.first) where
    pub closed_behind : (c : CalledWith) → 0 < m.offset → c ≡ behind_left (sweep_from ws es id s.low_threshold m.next s.buffered_amount) row s → c ≡ close_open_words ws es id row s
    closed_behind c h e =
        let o : 0 < (item_at ws s.first).offset = rw em at h in
        e ∙ ap (λ (x : Item). behind_left (sweep_from ws es id s.low_threshold x.next s.buffered_amount) row s) em
        ∙ sym (open_behind ws es id row s.first s refl (head_fits ws id row s y ne) o ∙ behind_goes ws es id row s (next_of ws s.first) _ (y.behind (head_fits ws id row s y ne) o) refl)

    pub closed_whole : (us : List ℕ) (c : CalledWith) → m.offset ≤ 0 → outcome true us ≡ remove_stream_words ws id
        → c ≡ whole_left (sweep_from us es id s.low_threshold s.first s.buffered_amount) row s → c ≡ close_open_words ws es id row s
    closed_whole us c h eu e =
        let o : (item_at ws s.first).offset ≤ 0 = rw em at h in
        e ∙ ap (λ (x : Outcome). whole_left (sweep_from x.next es id s.low_threshold s.first s.buffered_amount) row s) eu
        ∙ sym (open_whole ws es id row s.first s refl (head_fits ws id row s y ne) (omega arith) ∙ whole_goes ws es id row s _ (y.whole (head_fits ws id row s y ne) o) y.ended refl)

-- what the loaded stream may
pub close_of : (ws : List ℕ) (id row : ℕ) (s : OutgoingStream) (b : Bool) → MayCloseIn ws id row → s ≡ stream_at_words ws row → b ≡ is_open s.pause_state → b ≡ true → MayClose ws id row s
close_of ws id row s b y e eb h =
    let o : is_open (stream_at_words ws row).pause_state ≡ true = ap (λ (x : OutgoingStream). is_open x.pause_state) (sym e) ∙ sym eb ∙ h in
    subst (MayClose ws id row) (sym e) (y.1 o)
