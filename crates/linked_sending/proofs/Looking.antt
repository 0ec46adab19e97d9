-- A look at the scheduler's choice, on good words, is the model's look. Assumes nothing.
use Rattle.std.specs.Prelude.{Some, None}
use mathlib.Core.Path.{◌≡◌, refl, sym, ap, ◌∙◌}
use mathlib.Core.Bool.{Bool, true, false}
use mathlib.Core.List.{List, [], ◌∷◌}
use mathlib.Core.Option.{some}
use Prim.Native.Nat.{ℕ, suc, ◌≤◌, ◌<◌}
use native.Mathlib.Omega.{arith}
use borrow.Author.Tests.{lt-ltb, le-ltb, le-leb, lt-leb}
use lib.Dec.{ltb, leb}
use Rattle.queue_words.specs.Items.{Expiry}
use Rattle.queue_words.specs.Flags.{pick}
use Rattle.queue_words.specs.Active.{active_at}
use Rattle.queue_words.specs.Find.{find_stream_words}
use Rattle.queue_words.specs.Header.{totals_at, scheduler_at}
use Rattle.queue_words.specs.Items.{item_at}
use Rattle.queue_words.specs.Known.{id_at}
use Rattle.queue_words.specs.Streams.{stream_at_words}
use Rattle.queue_words.specs.declared.known.Found.TheVariants as found
use Rattle.queue_model.specs.Types.{Stream, expired}
use Rattle.queue_model.specs.Types as plain
use Rattle.std.specs.Prelude.{if◌then◌else◌}
use Rattle.queue_model.specs.Scheduler.{peek}
use Rattle.queue_model.specs.Streams.{find_stream}
use Rattle.queue_model.specs.Produce.{nothing, chosen, look_expired, look_at, look_for, look, head_of, head}
use Rattle.queue_model.proofs.Calm.Calm.{HeadAt}
use Rattle.queue_model.proofs.Invariant.Waits.{Listed, peek_in}
use Rattle.queue_model.proofs.Invariant.Sends.{HeadFor, head_for, head_of_at}
use Rattle.payload_store.proofs.Cases.{by_index}
use Rattle.stream_scheduler.specs.Link.{entry_at, model_scheduler, Chooses, row_chosen, none_chosen}
use Rattle.stream_scheduler.specs.Words.{peek_words}
use Rattle.stream_scheduler.specs.declared.Peeked.{Peeked}
use Rattle.stream_scheduler.specs.declared.Peeked.TheVariants as peeked
use Rattle.stream_scheduler.proofs.Handing.{peek_link}
use Rattle.queue_sending.specs.Choice.{expired_by, look_at_words, look_for_words, look_ahead, is_past}
use Rattle.queue_sending.specs.Look as words_look
use Rattle.queue_state.specs.Chains.{each}
use Rattle.queue_state.specs.Model.{next_of, item_in_words, row_at, stream_in, streams_in, model, expires_of}
use Rattle.queue_state.specs.Good.{Shape, Good}
use Rattle.queue_state.proofs.Chains.{linked_none, linked_some}
use Rattle.queue_state.proofs.Frames.{stream_is}
use Rattle.queue_state.proofs.Looks.{Lookup, known_at_lem, new_at, lookup}
use Rattle.queue_state.proofs.Singles.{model_streams, model_schedules}
use Rattle.queue_words.proofs.Finds.{by_lt}

-- The scheduler's row `at` is of the known stream in a position, whose first message is in place `first`.
pub record Choice (ws st : List ℕ) (g : Shape ws st) (at : ℕ) : Type 0 where
  pub pos : ℕ
  pub first : ℕ
  pub rest : List ℕ
  pub listed : at < (scheduler_at ws).active
  pub known : pos < (totals_at ws).known
  pub id_is : id_at ws pos ≡ (entry_at ws at).stream_id
  pub places_are : g.q pos ≡ first ∷ rest
  pub first_is : (stream_at_words ws (row_at ws pos)).first ≡ first
  pub first_fits : first < 1024
  pub found_at : find_stream_words ws (entry_at ws at).stream_id ≡ found.At pos (row_at ws pos)
  pub found_in : find_stream (entry_at ws at).stream_id (streams_in ws st) ≡ some (stream_in ws st pos)
  pub items_are : (stream_in ws st pos).items ≡ item_in_words ws st first ∷ each (item_in_words ws st) rest

-- What a look finds, in both.
pub data Looks (ws st : List ℕ) (g : Shape ws st) (time : ℕ) : Type 0 where
  looks_nothing : look_ahead ws time ≡ words_look.Nothing → look time (model ws st) ≡ nothing → Looks ws st g time
  looks_expired : (at : ℕ) (c : Choice ws st g at) → look_ahead ws time ≡ words_look.Expired (entry_at ws at).stream_id (row_at ws c.pos)
      → look time (model ws st) ≡ look_expired (model ws st) (stream_in ws st c.pos) (item_in_words ws st c.first) (each (item_in_words ws st) c.rest) → Looks ws st g time
  looks_chosen : (at : ℕ) (c : Choice ws st g at) → look_ahead ws time ≡ words_look.Chosen at (entry_at ws at).stream_id (row_at ws c.pos)
      → look time (model ws st) ≡ chosen (entry_at ws at) (stream_in ws st c.pos) (item_in_words ws st c.first) (each (item_in_words ws st) c.rest) → Looks ws st g time

-- ---- expiry

test_same : (t time : ℕ) → ltb t (suc time) ≡ leb t time
test_same t time = by_lt time t
    (λ h. let a : ltb t (suc time) ≡ false = le-ltb t (suc time) (omega arith) in a ∙ sym (lt-leb t time h))
    (λ h. let a : ltb t (suc time) ≡ true = lt-ltb t (suc time) (omega arith) in a ∙ sym (le-leb t time h))

pub expired_is : (ws st : List ℕ) (x time : ℕ) → expired time (item_in_words ws st x).expires_at ≡ expired_by (item_at ws x) time
unfolding item_in_words expired_by
expired_is ws st x time = go (item_at ws x).expires_at
  where
    go : (e : Expiry) → expired time (expires_of e) ≡ is_past e time
    go None = refl
    go (Some t) = test_same t time

-- ---- the choice

module _ (ws st : List ℕ) (g : Good ws st) where
  sh : Shape ws st
  sh = g.shape

  chosen_at : (at pos : ℕ) (xs : List ℕ) → at < (scheduler_at ws).active → pos < (totals_at ws).known → id_at ws pos ≡ (entry_at ws at).stream_id
      → find_stream_words ws (entry_at ws at).stream_id ≡ found.At pos (row_at ws pos) → find_stream (entry_at ws at).stream_id (streams_in ws st) ≡ some (stream_in ws st pos)
      → g.shape.q pos ≡ (stream_at_words ws (row_at ws pos)).first ∷ xs → (stream_at_words ws (row_at ws pos)).first < 1024 → Choice ws st g.shape at
  chosen_at at pos xs h k ei ef es eq hf = record {
    pos = pos;
    first = (stream_at_words ws (row_at ws pos)).first;
    rest = xs;
    listed = h;
    known = k;
    id_is = ei;
    places_are = eq;
    first_is = refl;
    first_fits = hf;
    found_at = ef;
    found_in = es;
    items_are = ap (λ (s : Stream). s.items) (stream_is ws st g.shape pos k) ∙ ap (each (item_in_words ws st)) eq;
  }

  no_items : (i : plain.Item) (is : List plain.Item) → [] ≡ i ∷ is → ⊥
  no_items i is e = let z : ◌≡◌ {A = ℕ} 0 1 = cc in omega arith

  -- a listed stream has a first message
  choice_of : (at : ℕ) → at < (scheduler_at ws).active → HeadFor (streams_in ws st) (entry_at ws at) → Lookup ws st (entry_at ws at).stream_id → Choice ws st g.shape at
  choice_of at h f (new_at p l lo hi e n) = let z : ◌≡◌ {A = ℕ} 0 1 = cc f.for_head.found in absurd (omega arith)
  choice_of at h f (known_at_lem pos k ei ef es) = by_index (stream_at_words ws (row_at ws pos)).first 1024
      (λ z.
      let e : g.shape.q pos ≡ [] = linked_none (next_of ws) (stream_at_words ws (row_at ws pos)).first (g.shape.q pos) (g.shape.rows pos k).linked z in
      let s : stream_in ws st pos ≡ f.for_stream = cc f.for_head.found in
      let a : [] ≡ f.for_item ∷ f.for_rest = sym (ap (each (item_in_words ws st)) e) ∙ sym (ap (λ (s : Stream). s.items) (stream_is ws st g.shape pos k)) ∙ ap (λ (s : Stream). s.items) s ∙ f.for_head.items in
      absurd (no_items f.for_item f.for_rest a))
      (λ ne.
      let l = linked_some (next_of ws) (stream_at_words ws (row_at ws pos)).first (g.shape.q pos) (g.shape.rows pos k).linked ne in
      chosen_at at pos l.0 h k ei ef es l.1 l.2)

  listed_at : (at : ℕ) → peek (model_scheduler ws) ≡ some (entry_at ws at) → Listed (totals_at ws).interleaving (streams_in ws st) (entry_at ws at)
  unfolding model
  listed_at at e = peek_in (Listed (totals_at ws).interleaving (streams_in ws st)) (model_scheduler ws) (entry_at ws at) g.well.waits.sched.every e

  -- ---- the look of the words

  ahead_at : (time at : ℕ) → peeked.At at ≡ peek_words ws → (c : Choice ws st g.shape at)
      → look_ahead ws time ≡ pick (expired_by (item_at ws c.first) time) (words_look.Expired (entry_at ws at).stream_id (row_at ws c.pos)) (words_look.Chosen at (entry_at ws at).stream_id (row_at ws c.pos))
  unfolding look_ahead look_for_words look_at_words entry_at
  ahead_at time at e c =
      let few : at ≤ 255 = omega (arith, c.listed, g.shape.schedules.few) in
      let ef : find_stream_words ws (active_at ws at).stream_id.0 ≡ found.At c.pos (row_at ws c.pos) = c.found_at in
      let hf : (stream_at_words ws (row_at ws c.pos)).first ≤ 1023 = omega (arith, c.first_fits, c.first_is) in
      rw (← e, le-ltb 255 at few, ef, le-ltb 1023 (stream_at_words ws (row_at ws c.pos)).first hf, c.first_is)

  -- ---- the look of the model

  model_at : (time at : ℕ) → peek (model_scheduler ws) ≡ some (entry_at ws at) → (c : Choice ws st g.shape at)
      → look time (model ws st) ≡ (if expired time (item_in_words ws st c.first).expires_at then look_expired (model ws st) (stream_in ws st c.pos) (item_in_words ws st c.first) (each (item_in_words ws st) c.rest)
      else chosen (entry_at ws at) (stream_in ws st c.pos) (item_in_words ws st c.first) (each (item_in_words ws st) c.rest))
  unfolding look look_for look_at
  model_at time at e c =
      let h : HeadAt (streams_in ws st) (entry_at ws at).stream_id (stream_in ws st c.pos) (item_in_words ws st c.first) (each (item_in_words ws st) c.rest) = record { found = c.found_in; items = c.items_are } in
      let d : head_of (find_stream (entry_at ws at).stream_id (model ws st).streams) ≡ head (stream_in ws st c.pos) (item_in_words ws st c.first) (each (item_in_words ws st) c.rest) = rw (model_streams ws st) (head_of_at (streams_in ws st) (entry_at ws at).stream_id (stream_in ws st c.pos) (item_in_words ws st c.first) (each (item_in_words ws st) c.rest) h) in
      rw (model_schedules ws st, e, d)

  pub looks : (time : ℕ) → Looks ws st g.shape time
  looks time = go (peek_words ws) refl (peek_link ws g.shape.schedules)
    where
      pick_expired : (at : ℕ) → peeked.At at ≡ peek_words ws → peek (model_scheduler ws) ≡ some (entry_at ws at) → (c : Choice ws st g.shape at) → (b : Bool) → expired_by (item_at ws c.first) time ≡ b → Looks ws st g.shape time
      pick_expired at e p c true x = looks_expired at c (rw x at (ahead_at time at e c)) (let y = expired_is ws st c.first time ∙ x in rw y at (model_at time at p c))
      pick_expired at e p c false x = looks_chosen at c (rw x at (ahead_at time at e c)) (let y = expired_is ws st c.first time ∙ x in rw y at (model_at time at p c))

      go : (p : Peeked) → p ≡ peek_words ws → Chooses ws (peek (model_scheduler ws)) p → Looks ws st g.shape time
      go (peeked.At at) e (row_chosen _ h p) =
          let f : HeadFor (streams_in ws st) (entry_at ws at) = head_for (totals_at ws).interleaving (streams_in ws st) (entry_at ws at) (listed_at at p) in
          let c = choice_of at h f (lookup ws st g.shape (entry_at ws at).stream_id) in
          pick_expired at e p c (expired_by (item_at ws c.first) time) refl
      go peeked.Broken e x = elim x [ ]
      go peeked.Nothing e (none_chosen p) = looks_nothing (unfold look_ahead in rw (← e)) (unfold look look_for in rw (model_schedules ws st, p))
