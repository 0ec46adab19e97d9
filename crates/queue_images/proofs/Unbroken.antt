-- What the code's queues show over calls and changeovers is what the model's show: document 02's 10/13 on fragments. Assumes nothing.
use mathlib.Core.Path.{◌≡◌, refl, sym, ap, ap₂, ◌∙◌, subst}
use mathlib.Core.Bool.{Bool, true, false}
use mathlib.Core.List.{List, [], ◌∷◌, ◌++◌, map, append_assoc, append-nil}
use mathlib.Core.Option.{Option, none, some}
use Prim.Native.Nat.{ℕ, ◌≤◌, ◌<◌, ◌^◌}
use native.Mathlib.Omega.{arith}
use lib.ListN.{length, take}
use Rattle.queue_words.specs.Flags.{pick}
use Rattle.types.specs.Keys.{key_of}
use Rattle.queue_model.specs.Types as plain
use Rattle.queue_model.specs.Types.{Queue, Fragment}
use Rattle.queue_model.specs.Logic.{same_bool}
use Rattle.queue_model.specs.Streams.{new_queue}
use Rattle.queue_model.specs.Calls as calls
use Rattle.queue_model.specs.Demands.{Created, fresh}
use Rattle.queue_model.specs.Image.{write_image}
use Rattle.queue_model.specs.Run as run
use Rattle.queue_model.specs.Answers.{fragments_in}
use Rattle.queue_model.specs.Unbroken as model
use Rattle.queue_model.specs.Unbroken.{Behind, UnbrokenBehind}
use Rattle.queue_model.proofs.Invariant.Unbroken as unbroken
use Rattle.queue_sending.specs.declared.data.DataToSend.{DataToSend}
use Rattle.linked_sending.specs.Meaning.{data_of}
use Rattle.packets.specs.declared.packet.Packet.{Packet}
use Rattle.queue_runs.specs.Calls.{Call, produce, fill, restore, call_of, Typed}
use Rattle.queue_runs.specs.Fragments.{data_in}
use Rattle.queue_runs.specs.Run as runs
use Rattle.queue_runs.specs.Run.{State, step}
use Rattle.queue_runs.specs.Creation.{Arguments, options_with, new_state}
use Rattle.queue_runs.specs.Meaning.{queue_of, GoodState, AllTyped}
use Rattle.queue_runs.specs.Refusals.{refusal}
use Rattle.queue_runs.proofs.Steps.{step_link, typed_call, store_small, meant}
use Rattle.queue_runs.proofs.News.{new_link}
use Rattle.queue_runs.proofs.Fragments.{data_append, step_data}
use Rattle.queue_runs.proofs.MidMessage.{uninterleaved}
use Rattle.queue_fillings.specs.Expanded.{separately, sizes_asked, instead}
use Rattle.queue_fillings.proofs.Expanded.{stands_call}
use Rattle.queue_images.specs.Demand2.{Saves}
use Rattle.queue_images.specs.Unbroken.{Continues, starts, all_in, Onward, New, as_created, as_chosen, Sends, begins, goes_on, packs, changes_over, Request10Unbroken, Request10Together}
use Rattle.queue_images.proofs.Demand2 as images

-- ---- what a queue has sent

-- The queue is good, and stands for one of the model that has sent the same.
record Stands (a : Arguments) (len : ℕ) (s : State) (ds : List DataToSend) : Type 0 where
  good : GoodState s
  store_is : length s.store ≡ len
  fragments : List Fragment
  sends : model.Sends (options_with a len) (queue_of s) fragments
  shown_as : ds ≡ map data_of fragments

-- A new queue without interleaving stands for the model's, whether or not that choice was made.
fresh_new : (o : plain.Options) → new_queue o ≡ fresh o false
unfolding fresh new_queue run.step calls.set_interleaving same_bool
fresh_new o = refl

as_new : {a : Arguments} {len : ℕ} {s : State} → New a len s → images.Begins a len false s
as_new {a} {len} (as_created {before = b} c e) =
    let n = new_link a b c in
    subst (λ (k : ℕ). images.Begins a k false (new_state a b)) e (record { good = n.good; queue_is = n.queue_is ∙ fresh_new (options_with a (length b.store)); store_is = refl })
as_new {a} {len} (as_chosen {before = b} c e) = images.begins a len b false c e

new_created : {a : Arguments} {len : ℕ} {s : State} → New a len s → Created (options_with a len)
new_created {a} (as_created {before = b} c e) = subst (λ (k : ℕ). Created (options_with a k)) e (new_link a b c).created
new_created {a} (as_chosen {before = b} c e) = subst (λ (k : ℕ). Created (options_with a k)) e (new_link a b c).created

begun : (a : Arguments) (len : ℕ) (s : State) → New a len s → Stands a len s []
begun a len s c =
    let n = as_new c in
    let o : plain.Options = options_with a len in
    record { good = n.good; store_is = n.store_is; fragments = []; sends = subst (λ (q : Queue). model.Sends o q []) (sym (n.queue_is ∙ sym (fresh_new o))) (model.begins (new_created c)); shown_as = refl }

gone_on : (a : Arguments) (len : ℕ) (s : State) (ds : List DataToSend) → Stands a len s ds → (c : Call) → Typed c → Onward c s → Stands a len (step c s).next (ds ++ data_in (step c s).shows.answer)
gone_on a len s ds h c t u =
    let k = step_link c s h.good t in
    let o = (meant c s).outcome in
    let gs : List Fragment = fragments_in o.answer in
    let m : model.Sends (options_with a len) (meant c s).next (h.fragments ++ gs) = model.goes_on h.sends (call_of (length s.store) c) (typed_call (length s.store) c (store_small s h.good) t) (uninterleaved ⊥ (λ x. ⊥) c s h.good t u) in
    record {
      good = k.good;
      store_is = k.same_store ∙ h.store_is;
      fragments = h.fragments ++ gs;
      sends = subst (λ (q : Queue). model.Sends (options_with a len) q (h.fragments ++ gs)) (sym k.next_is) m;
      shown_as = ap₂ (λ (xs ys : List DataToSend). xs ++ ys) h.shown_as (step_data c s h.good t) ∙ sym (data_append h.fragments gs);
    }

-- The separate calls of a filling, one after another.
separately_on : (a : Arguments) (len : ℕ) (es bs : List ℕ) (time : ℕ) (ns : List ℕ) (s : State) (ds : List DataToSend) → Stands a len s ds → AllTyped (separately es bs time ns)
    → Stands a len (runs.after (separately es bs time ns) s) (ds ++ all_in (runs.run (separately es bs time ns) s))
unfolding runs.after runs.run all_in
separately_on a len es bs time [] s ds h t = subst (Stands a len s) (sym (append-nil ds)) h
separately_on a len es bs time (n ∷ ns) s ds h t =
    let c : Call = produce es (take n bs) time n in
    let s' : State = (step c s).next in
    let es' : List DataToSend = data_in (step c s).shows.answer in
    subst (Stands a len (runs.after (separately es bs time ns) s')) (append_assoc ds es' (all_in (runs.run (separately es bs time ns) s')))
    (separately_on a len es bs time ns s' (ds ++ es') (gone_on a len s ds h c t.0 tt) t.1)

packed : (a : Arguments) (len : ℕ) (s : State) (ds : List DataToSend) → Stands a len s ds → (es bs : List ℕ) (time : ℕ) (p : Packet) → Typed (fill es bs time p)
    → Stands a len (step (fill es bs time p) s).next (ds ++ all_in (runs.run (instead (fill es bs time p) s) s))
unfolding runs.after runs.run all_in
packed a len s ds h es bs time p t =
    let c : Call = fill es bs time p in
    let k = stands_call c s h.good t in
    let x = chosen (refusal (step c s).shows.answer) k.typed in
    record {
      good = k.leads.good';
      store_is = sym k.leads.stores ∙ x.store_is;
      fragments = x.fragments;
      sends = subst (λ (q : Queue). model.Sends (options_with a len) q x.fragments) k.leads.queues x.sends;
      shown_as = x.shown_as;
    }
  where
    chosen : (b : Bool) → AllTyped (pick b [] (separately es bs time (sizes_asked es time p s)))
        → Stands a len (runs.after (pick b [] (separately es bs time (sizes_asked es time p s))) s) (ds ++ all_in (runs.run (pick b [] (separately es bs time (sizes_asked es time p s))) s))
    chosen true u = subst (Stands a len s) (sym (append-nil ds)) h
    chosen false u = separately_on a len es bs time (sizes_asked es time p s) s ds h u

changed_over : (a : Arguments) (len : ℕ) (s t : State) (ds : List DataToSend) → Stands a len s ds → (saved time size : ℕ) (buffer after : List ℕ)
    → Saves s saved buffer after size → New a len t → time ≤ 4611686018427387903 → Stands a len (step (restore time (take size after)) t).next ds
changed_over a len s t ds h at time size buffer after v c ht =
    let i = images.the_image s at size buffer after h.good v in
    let n = as_new c in
    let o : plain.Options = options_with a len in
    let short : length (take size after) < 2 ^ 64 = omega (arith, ap length i.0, i.1, v.short) in
    let k = images.stepped a len s t at time false (take size after) h.good n ht i.0 short in
    let next : Queue = (run.step (run.restore len time (write_image at (queue_of s))) (fresh o false)).next in
    let x : queue_of (step (restore time (take size after)) t).next ≡ next = k.next_is ∙ ap (λ (y : plain.Step). y.next) (images.meant_image a len s t at time false (take size after) h.good n ht i.0 short) in
    record {
      good = k.good;
      store_is = k.same_store ∙ n.store_is;
      fragments = h.fragments;
      sends = subst (λ (q : Queue). model.Sends o q h.fragments) (sym x) (model.changes_over h.sends at time ht);
      shown_as = h.shown_as;
    }

stands : {a : Arguments} {len : ℕ} {s : State} {ds : List DataToSend} → Sends a len s ds → Stands a len s ds
stands {a} {len} {s} (begins c) = begun a len s c
stands {a} {len} (goes_on {s = s} {ds = ds} x c t u) = gone_on a len s ds (stands x) c t u
stands {a} {len} (packs {s = s} {ds = ds} x es bs time p t) = packed a len s ds (stands x) es bs time p t
stands {a} {len} (changes_over {s = s} {t = t} {ds = ds} x at time size buffer after v c ht) = changed_over a len s t ds (stands x) at time size buffer after v c ht

-- ---- THE THEOREM

continues : (f g : Fragment) → model.Continues f g → Continues (data_of f) (data_of g)
continues f g c = record {
  same_message = c.same_message;
  same_stream = ap₂ (λ (u : Bool) (k : ℕ). key_of u (record { 0 = k })) c.same_order c.same_stream;
  same_mid = c.same_mid;
  same_ssn = c.same_ssn;
  next_fsn = c.next_fsn;
  not_end = c.not_last;
}

shown_before : Option Fragment → Option DataToSend
shown_before none = none
shown_before (some f) = some (data_of f)

unbroken_shown : (p : Option Fragment) (fs : List Fragment) → UnbrokenBehind model.starts model.Continues p fs → UnbrokenBehind starts Continues (shown_before p) (map data_of fs)
unfolding shown_before
unbroken_shown p [] u = tt
unbroken_shown p (g ∷ fs) u = ((λ e. behind p (u.0 e)), unbroken_shown (some g) fs u.1)
  where
    behind : (p : Option Fragment) → Behind model.starts model.Continues p g → Behind starts Continues (shown_before p) (data_of g)
    behind none b = b
    behind (some f) b = continues f g b

pub request10_unbroken : Request10Unbroken
unfolding Request10Unbroken model.Request10Unbroken shown_before
request10_unbroken a len s ds x =
    let h = stands x in
    subst (UnbrokenBehind starts Continues none) (sym h.shown_as) (unbroken_shown none h.fragments (unbroken.request10_unbroken (options_with a len) (queue_of s) h.fragments h.sends))

pub request10_together : Request10Together
unfolding Request10Together Request10Unbroken
request10_together a len s ds x = unbroken.together starts Continues (λ (d : DataToSend). d.message_id.0) (λ d e c. c.same_message) ds (request10_unbroken a len s ds x)
