-- On the words of a queue a head that is meant may be dropped. Assumes nothing.
use mathlib.Core.Path.{◌≡◌, refl, sym, ap, ◌∙◌, subst}
use mathlib.Core.List.{List, [], ◌∷◌}
use Prim.Native.Nat.{ℕ, ◌≤◌, ◌<◌}
use native.Mathlib.Omega.{arith}
use borrow.Author.Tests.{lt-ltb, le-ltb, eq-eqb, ne_eqb}
use lib.ListN.{length}
use Rattle.queue_words.specs.Find.{find_stream_words}
use Rattle.queue_words.specs.Header.{totals_at}
use Rattle.queue_words.specs.Items.{item_at}
use Rattle.queue_words.specs.Known.{id_at}
use Rattle.queue_words.specs.Streams.{stream_at_words}
use Rattle.queue_words.specs.declared.items.Item.{Item}
use Rattle.queue_words.specs.declared.known.Found.TheVariants.{At, Gap}
use Rattle.queue_words.specs.declared.streams.OutgoingStream.{OutgoingStream}
use Rattle.queue_model.specs.Demands.{Typed}
use Rattle.queue_model.specs.Run as run
use Rattle.queue_streams.specs.Events.{event_words, places_in}
use Rattle.queue_streams.specs.Settings.{CalledWith, called_with}
use Rattle.queue_streams.specs.Call.{Accepted, Refused}
use Rattle.message_chains.specs.Dropping.{dropped_in_state, MayDrop}
use Rattle.message_chains.proofs.Own.{may_drop}
use Rattle.queue_messages.specs.Discard.{discard_in, discard}
use Rattle.queue_state.specs.Chains.{Linked}
use Rattle.queue_state.specs.Model.{next_of, row_at}
use Rattle.queue_state.specs.Good.{Good}
use Rattle.queue_state.proofs.Chains.{linked_le}
use Rattle.queue_state.proofs.Facts.{message_is}
use Rattle.queue_state.proofs.Frames.{row_below}
use Rattle.queue_state.proofs.Heads.{head_first}
use Rattle.queue_state.proofs.Looks.{Lookup, known_at_lem, new_at, lookup}
use Rattle.linked_dropping.proofs.Discards.{head_goes}
use Rattle.owned_streams.specs.Own.{OwnWords}
use Rattle.owned_closing.specs.Own.{MayDiscard}

-- ---- from good words

module _ (ws st es : List ℕ) (g : Good ws st) (m : ℕ) (i : ℕ) (hk : i < (totals_at ws).known) (t : Typed (run.discard (places_in es) (id_at ws i) m)) (long : event_words ≤ length es) where
  at_row : MayDiscard ws (id_at ws i) m (row_at ws i)
  at_row = record {
    row_fits = row_below ws st g.shape i hk;
    first_fits = linked_le (next_of ws) (stream_at_words ws (row_at ws i)).first (g.shape.q i) (g.shape.rows i hk).linked;
    goes = λ h e. go (g.shape.q i) refl h e;
  }
    where
      go : (ps : List ℕ) → g.shape.q i ≡ ps → (stream_at_words ws (row_at ws i)).first < 1024 → (item_at ws (stream_at_words ws (row_at ws i)).first).message_id.0 ≡ m → MayDrop ws (id_at ws i) (row_at ws i)
      go [] eq h e = let f : (stream_at_words ws (row_at ws i)).first ≡ 1024 = subst (Linked (next_of ws) (stream_at_words ws (row_at ws i)).first) eq (g.shape.rows i hk).linked in absurd (omega arith)
      go (x ∷ xs) eq h e =
          let f = head_first ws st g.shape i hk x xs eq in
          let me : (item_at ws x).message_id.0 ≡ m = subst (λ (y : ℕ). (item_at ws y).message_id.0 ≡ m) f e in
          let d = ap (λ (y : ℕ). (dropped_in_state ws es 0 (id_at ws i) (row_at ws i) (stream_at_words ws (row_at ws i)) (item_at ws y)).answer) f in
          may_drop ws es 0 (id_at ws i) (row_at ws i) _ (row_below ws st g.shape i hk) h (d ∙ head_goes ws st es m g i hk x xs eq t long (message_is ws st x ∙ me))

pub may_discard : (ws : List ℕ) (y : OwnWords ws) (es : List ℕ) (id m p row : ℕ) → event_words ≤ length es → id < 65536 → m < 4294967296 → length es < 18446744073709551616 → find_stream_words ws id ≡ At p row
    → MayDiscard ws id m row
may_discard ws y es id m p row long hid hm hes e = go (lookup ws y.store y.good.shape id)
  where
    typed : Typed (run.discard (places_in es) id m)
    typed = (omega arith, (hid, hm))

    go : Lookup ws y.store id → MayDiscard ws id m row
    go (known_at_lem i hk ei f z) =
        let r : row_at ws i ≡ row = cc (e, f) in
        subst (MayDiscard ws id m) r (subst (λ (n : ℕ). Typed (run.discard (places_in es) n m) → MayDiscard ws n m (row_at ws i)) ei (λ t. at_row ws y.store es y.good m i hk t long) typed)
    go (new_at q hp lo hi f z) = let z : ◌≡◌ {A = ℕ} 0 1 = cc (e, f) in absurd (omega arith)

-- ---- the ways out

module _ (ws es : List ℕ) (id m row : ℕ) (s : OutgoingStream) (es' : s ≡ stream_at_words ws row) where
  pub in_empty : s.first ≡ 1024 → called_with (Accepted 0) ws es ≡ discard_in ws es id m row (stream_at_words ws row)
  unfolding discard_in
  in_empty h = sym (rw (← es', le-ltb 1024 s.first (omega arith), eq-eqb s.first 1024 h))

  module _ (ne : s.first ≡ 1024 → ⊥) (fits : s.first ≤ 1024) (x : Item) (ex : x ≡ item_at ws s.first) where
    pub in_other : (x.message_id.0 ≡ m → ⊥) → called_with (Accepted 0) ws es ≡ discard_in ws es id m row (stream_at_words ws row)
    unfolding discard_in
    in_other h = sym (rw (← es', le-ltb 1024 s.first fits, ne_eqb s.first 1024 ne, ← ex, ne_eqb x.message_id.0 m h))

    pub in_head : (r : CalledWith) → x.message_id.0 ≡ m → r ≡ dropped_in_state ws es 0 id row (stream_at_words ws row) (item_at ws (stream_at_words ws row).first) → r ≡ discard_in ws es id m row (stream_at_words ws row)
    unfolding discard_in
    in_head r h e = e ∙ rw (← es', le-ltb 1024 s.first fits, ne_eqb s.first 1024 ne, ← ex, eq-eqb x.message_id.0 m h)

pub words_few : (ws es : List ℕ) (id m : ℕ) → length es < event_words → called_with (Refused 3) ws es ≡ discard ws es id m
unfolding discard
words_few ws es id m h = rw (lt-ltb (length es) event_words h)

pub words_none : (ws es : List ℕ) (id m p : ℕ) → event_words ≤ length es → find_stream_words ws id ≡ Gap p → called_with (Accepted 0) ws es ≡ discard ws es id m
unfolding discard
words_none ws es id m p h e = rw (le-ltb (length es) event_words h, e)

pub words_found : (ws es : List ℕ) (id m p row : ℕ) (r : CalledWith) → event_words ≤ length es → find_stream_words ws id ≡ At p row → r ≡ discard_in ws es id m row (stream_at_words ws row) → r ≡ discard ws es id m
unfolding discard
words_found ws es id m p row r h e d = d ∙ rw (le-ltb (length es) event_words h, e)

-- the head's place, and what the record says of the loaded stream
pub first_of : (ws : List ℕ) (id m row : ℕ) (s : OutgoingStream) → MayDiscard ws id m row → s ≡ stream_at_words ws row → s.first ≤ 1024
first_of ws id m row s y e = subst (λ (x : OutgoingStream). x.first ≤ 1024) (sym e) y.first_fits

pub drop_of : (ws : List ℕ) (id m row : ℕ) (s : OutgoingStream) (x : Item) → MayDiscard ws id m row → s ≡ stream_at_words ws row → (s.first ≡ 1024 → ⊥) → x ≡ item_at ws s.first → x.message_id.0 ≡ m → MayDrop ws id row
drop_of ws id m row s x y e ne ex h =
    let f = first_of ws id m row s y e in
    let l : s.first < 1024 = omega (arith, f, ne) in
    y.goes (subst (λ (z : OutgoingStream). z.first < 1024) e l) (subst (λ (z : OutgoingStream). (item_at ws z.first).message_id.0 ≡ m) e (ap (λ (z : Item). z.message_id.0) (sym ex) ∙ h))
