-- Every saved image is accepted by a new queue created alike, and restores what the Rust restores: demand 2 on images, on the code's definitions. Assumes nothing.
use mathlib.Core.Path.{◌≡◌, refl, sym, ap, ◌∙◌, subst}
use mathlib.Core.Bool.{Bool}
use mathlib.Core.List.{List, [], ◌++◌}
use mathlib.Core.Option.{Option, none, some}
use Prim.Native.Nat.{ℕ, ◌≤◌, ◌<◌, ◌^◌}
use native.Mathlib.Omega.{arith}
use lib.Dec.{T}
use lib.ListN.{length, take, drop}
use lib.Pow.{are_bytes}
use lib.Seq.{take-append_seam}
use Rattle.queue_model.specs.Types as plain
use Rattle.queue_model.specs.Types.{Queue, done, reply, Step}
use Rattle.queue_model.specs.Demands as demands
use Rattle.queue_model.specs.Demands.{Reachable, fresh, forget_plain}
use Rattle.queue_model.specs.Image.{Saving, not_saved, saved_as_lem, saving_or, save, save_checks, save_refusal, write_image}
use Rattle.queue_model.specs.Refusals.{first_refusal}
use Rattle.queue_model.specs.RustHandover.{HandoverState, handover_state, restore_from_state, restore_remembering}
use Rattle.queue_model.specs.Restore as image
use Rattle.queue_model.specs.Run as run
use Rattle.queue_model.specs.Streams.{new_queue}
use Rattle.queue_model.proofs.Checks.{all_passed, not_less}
use Rattle.queue_model.proofs.Demand2.Bytes.{image_is_bytes}
use Rattle.queue_model.proofs.Demand2.Images.{demand2_images, demand2_rust}
use Rattle.saving.specs.Save.{SavedAs, saved_as}
use Rattle.saving.specs.Saved as saved
use Rattle.linked_saving.specs.Meaning.{saved_of}
use Rattle.linked_saving.proofs.Saves.{save_is}
use Rattle.queue_runs.specs.Calls.{restore, set_interleaving, Shown}
use Rattle.queue_runs.specs.Creation.{Arguments, options_with, new_state, Creates}
use Rattle.queue_runs.specs.Demand3.{Reached}
use Rattle.queue_runs.specs.Meaning.{queue_of, GoodState, quiet_of}
use Rattle.queue_runs.specs.Run.{State, after}
use Rattle.queue_runs.proofs.Steps.{Stepped, step_link, meant}
use Rattle.queue_runs.proofs.Runs.{run_link}
use Rattle.queue_runs.proofs.News.{new_link, reached}
use Rattle.queue_images.specs.Demand2.{Saves, fresh_state, Restores, Demand2Images, Demand2Rust}
use Rattle.queue_runs.proofs.Demand3.{restore_is}

-- ---- the saved image

saved_bytes : (store room now : ℕ) (q : Queue) (bs : List ℕ) → save store room now q ≡ saved_as_lem bs → bs ≡ write_image now q
unfolding save saving_or
saved_bytes store room now q bs e = go (save_refusal store room now q) e
  where
    go : (x : Option ℕ) → saving_or x (write_image now q) ≡ saved_as_lem bs → bs ≡ write_image now q
    go none f = let z : write_image now q ≡ bs = cc in sym z
    go (some n) f = let z : ◌≡◌ {A = ℕ} 0 1 = cc in absurd (omega arith)

image_fits : (store room now : ℕ) (q : Queue) (bs : List ℕ) → save store room now q ≡ saved_as_lem bs → length (write_image now q) ≤ room
unfolding save saving_or save_refusal
image_fits store room now q bs e = go (first_refusal (save_checks store room now q)) refl e
  where
    go : (x : Option ℕ) → first_refusal (save_checks store room now q) ≡ x → saving_or x (write_image now q) ≡ saved_as_lem bs → length (write_image now q) ≤ room
    go none h f = not_less room (length (write_image now q)) (all_passed (save_checks store room now q) h).1.1.0
    go (some n) h f = let z : ◌≡◌ {A = ℕ} 0 1 = cc in absurd (omega arith)

-- What an accepted saving leaves: the model's image at the buffer's start.
image_in : (b after : List ℕ) (size : ℕ) (x : Saving) (img : List ℕ) → ((bs : List ℕ) → x ≡ saved_as_lem bs → bs ≡ img) → ((bs : List ℕ) → x ≡ saved_as_lem bs → length img ≤ length b) → saved_as (saved.Image size) after ≡ saved_of b x → (size ≡ length img) × (after ≡ img ++ drop (length img) b) × (length img ≤ length b)
image_in b after size (not_saved n) img f h e = let k = ap (λ (x : SavedAs). x.answer) e in let z : ◌≡◌ {A = ℕ} 0 1 = cc in absurd (omega arith)
image_in b after size (saved_as_lem bs) img f h e =
    let k : bs ≡ img = f bs refl in
    let r = ap (λ (x : SavedAs). x.answer) e in
    let a : size ≡ length bs = cc in
    let c : after ≡ bs ++ drop (length bs) b = ap (λ (x : SavedAs). x.image) e in
    (a ∙ ap length k, c ∙ ap (λ l. l ++ drop (length l) b) k, h bs refl)

pub the_image : (s : State) (saved size : ℕ) (buffer after : List ℕ) → GoodState s → Saves s saved buffer after size
    → (take size after ≡ write_image saved (queue_of s)) × (length (write_image saved (queue_of s)) ≤ length buffer)
the_image s at size buffer after g h =
    let x : Saving = save (length s.store) (length buffer) at (queue_of s) in
    let e : saved_as (saved.Image size) after ≡ saved_of buffer x = sym h.accepted ∙ save_is s.words s.store buffer at g in
    let k = image_in buffer after size x (write_image at (queue_of s)) (saved_bytes (length s.store) (length buffer) at (queue_of s)) (image_fits (length s.store) (length buffer) at (queue_of s)) e in
    let img : List ℕ = write_image at (queue_of s) in
    (ap (λ n. take n after) k.0 ∙ ap (take (length img)) k.1 ∙ take-append_seam img (drop (length img) buffer), k.2)

-- ---- the theorem

fresh_is : (o : plain.Options) (b : Bool) → (run.step (run.set_interleaving b) (new_queue o)).next ≡ fresh o b
unfolding fresh
fresh_is o b = refl

-- A reached queue is good, and stands for a reachable queue of the model.
record Stands (o : plain.Options) (s : State) : Type 0 where
  good : GoodState s
  reachable : Reachable o (queue_of s)

stands : (a : Arguments) (len : ℕ) (s : State) → Reached a len s → Stands (options_with a len) s
stands a len s r =
    let n = new_link a r.before r.creates in
    let h = run_link r.calls (new_state a r.before) n.good r.typed in
    let x : Stands (options_with a (length r.before.store)) (after r.calls (new_state a r.before)) = record { good = h.good; reachable = reached a r.before r.calls r.creates r.typed } in
    subst (λ (k : ℕ). Stands (options_with a k) s) r.store_is (subst (Stands (options_with a (length r.before.store))) (sym r.state_is) x)

-- A new queue with an interleaving choice.
pub record Begins (a : Arguments) (len : ℕ) (b : Bool) (t : State) : Type 0 where
  pub good : GoodState t
  pub queue_is : queue_of t ≡ fresh (options_with a len) b
  pub store_is : length t.store ≡ len

pub begins : (a : Arguments) (len : ℕ) (new : State) (b : Bool) → Creates a new → length new.store ≡ len → Begins a len b (fresh_state a new b)
begins a len new b c e =
    let n = new_link a new c in
    let f = step_link (set_interleaving b) (new_state a new) n.good tt in
    let o : plain.Options = options_with a (length new.store) in
    let q : queue_of (fresh_state a new b) ≡ fresh o b = f.next_is ∙ ap (λ (x : Queue). (run.step (run.set_interleaving b) x).next) n.queue_is ∙ fresh_is o b in
    record { good = f.good; queue_is = q ∙ ap (λ (k : ℕ). fresh (options_with a k) b) e; store_is = f.same_store ∙ e }

-- Restoring the image into it is the model's restoring of the model's image.
module _ (a : Arguments) (len : ℕ) (s t : State) (at time : ℕ) (b : Bool) (i : List ℕ) (g : GoodState s) (n : Begins a len b t) (ht : time ≤ 4611686018427387903) (ei : i ≡ write_image at (queue_of s)) (short : length i < 2 ^ 64) where
  bytes : T (are_bytes i)
  bytes = subst (λ l. T (are_bytes l)) (sym ei) (image_is_bytes at (queue_of s) g.well)

  pub stepped : Stepped (restore time i) t
  stepped = step_link (restore time i) t n.good (omega arith, (short, bytes))

  pub meant_image : meant (restore time i) t ≡ run.step (run.restore len time (write_image at (queue_of s))) (fresh (options_with a len) b)
  meant_image =
      ap (λ (k : ℕ). run.step (run.restore k time i) (queue_of t)) n.store_is
      ∙ ap (λ (x : Queue). run.step (run.restore len time i) x) n.queue_is
      ∙ ap (λ (l : List ℕ). run.step (run.restore len time l) (fresh (options_with a len) b)) ei

-- What the model restores from the record, it restores.
module _ (by : ℕ → HandoverState → Queue → Queue) (a : Arguments) (len : ℕ) (s new : State) (at time : ℕ) (b : Bool) (i : List ℕ) (g : GoodState s) (n : Begins a len b (fresh_state a new b))
    (ht : time ≤ 4611686018427387903) (ei : i ≡ write_image at (queue_of s)) (short : length i < 2 ^ 64)
    (model : image.restore len time (write_image at (queue_of s)) (fresh (options_with a len) b) ≡ reply done [] (forget_plain (by time (handover_state at (queue_of s)) (fresh (options_with a len) b)))) where
  abbrev left : Queue
  left = forget_plain (by time (handover_state at (queue_of s)) (fresh (options_with a len) b))

  restored : Restores by a len s new at time b i
  restored =
      let k = stepped a len s (fresh_state a new b) at time b i g n ht ei short in
      let e : meant (restore time i) (fresh_state a new b) ≡ reply done [] left = meant_image a len s (fresh_state a new b) at time b i g n ht ei short ∙ restore_is len time (write_image at (queue_of s)) (fresh (options_with a len) b) ∙ model in
      record {
        accepted = ap (λ (x : Shown). x.answer) k.shows_are ∙ ap (λ (x : Step). (quiet_of x.outcome).answer) e;
        good = k.good;
        stands_for = k.next_is ∙ ap (λ (x : Step). x.next) e;
      }

-- DEMAND 2 on images, on the code's definitions.
pub demand2 : Demand2Images
unfolding Demand2Images demands.Demand2Images
demand2 a len s new at time size buffer after b r h c e ht =
    let x = stands a len s r in
    let i = the_image s at size buffer after x.good h in
    restored restore_remembering a len s new at time b (take size after) x.good (begins a len new b c e) ht i.0 (omega (arith, ap length i.0, i.1, h.short))
    (demand2_images (options_with a len) (queue_of s) at time b x.reachable ht)

-- And where the Rust is matched.
pub matched : Demand2Rust
unfolding Demand2Rust demands.Demand2Rust
matched a len s new at time size buffer after b r h c e ht m =
    let x = stands a len s r in
    let i = the_image s at size buffer after x.good h in
    restored restore_from_state a len s new at time b (take size after) x.good (begins a len new b c e) ht i.0 (omega (arith, ap length i.0, i.1, h.short))
    (demand2_rust (options_with a len) (queue_of s) at time b x.reachable ht m)
