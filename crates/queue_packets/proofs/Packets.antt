-- Request 5/13 on the code. Assumes nothing.
use mathlib.Core.Path.{◌≡◌, refl, sym, ap, ap₂, ◌∙◌, subst}
use mathlib.Core.Bool.{Bool}
use mathlib.Core.List.{List, [], ◌∷◌, ◌++◌}
use mathlib.Core.Option.{Option, none, some}
use Prim.Native.Nat.{ℕ, ◌<◌, ◌^◌}
use native.Mathlib.Omega.{arith}
use lib.ListN.{length, take, drop}
use lib.Seq.{take-append_seam}
use Rattle.types.specs.Wrap.{wrap_suc}
use Rattle.types.specs.declared.StreamId.{StreamId}
use Rattle.queue_model.specs.Types.{Queue, Fragment, Event, Step, refuse}
use Rattle.queue_model.specs.Fill as spec
use Rattle.queue_model.specs.Fill.{common_header_length, packet_bytes, fill_checks}
use Rattle.queue_model.specs.Packets.{shown_events, shown_fragments, separate_calls, cut_chunks, each_chunk, Writable, Fills}
use Rattle.queue_model.specs.Packets as model
use Rattle.queue_model.specs.Refusals.{first_refusal, refused_or, checked}
use Rattle.queue_model.specs.Run as run
use Rattle.queue_model.proofs.Fill.Request5 as theorem
use Rattle.queue_streams.specs.Events.{places_in}
use Rattle.chunks.specs.Promise.{InWidth, ReadsBack}
use Rattle.chunks.proofs.Theorems.{reads_back}
use Rattle.packets.specs.declared.packet.Packet.{Packet}
use Rattle.packets.specs.PacketFilled as packet
use Rattle.packets.specs.Filling.{packet_of, kind_of}
use Rattle.linked_sending.specs.Meaning.{data_of}
use Rattle.linked_packets.proofs.Chunk.{chunk_same}
use Rattle.queue_runs.specs.Calls.{fill, filled, Shown}
use Rattle.queue_runs.specs.Run.{State, step}
use Rattle.queue_runs.specs.Meaning.{queue_of, packed_of}
use Rattle.queue_runs.specs.Creation.{options_with}
use Rattle.queue_runs.proofs.Steps.{step_link, meant}
use Rattle.queue_runs.proofs.Demand3.{stands}
use Rattle.queue_runs.proofs.Account.{key_same}
use Rattle.queue_packets.specs.Packets.{EachRead, Request5}
use Rattle.queue_packets.proofs.Fit.{Fits, AllFit, all_fit}

-- ---- the chunks read

pub in_width : (tsn : ℕ) (f : Fragment) → tsn < 2 ^ 32 → Fits f → InWidth tsn (data_of f).«data»
in_width tsn f t h = record {
  tsn_fits = t;
  id_fits = subst (λ (x : StreamId). x.0 < 65536) (sym (key_same f.unordered (record { 0 = f.stream_id }))) h.id_fits;
  ssn_fits = h.ssn_fits;
  mid_fits = h.mid_fits;
  fsn_fits = h.fsn_fits;
  ppid_fits = h.ppid_fits;
}

wrapped : (n : ℕ) → wrap_suc 32 n < 2 ^ 32
wrapped n = omega arith

each_read : (idata : Bool) (tsn : ℕ) (fs : List Fragment) → tsn < 2 ^ 32 → Writable fs → AllFit fs → EachRead (kind_of idata) tsn fs (each_chunk idata tsn fs)
unfolding each_chunk
each_read idata tsn [] t w a = tt
each_read idata tsn (f ∷ fs) t w a = (
  subst (λ (bs : List ℕ). ReadsBack bs (kind_of idata) tsn (data_of f) f.bytes) (chunk_same idata tsn f) (reads_back (kind_of idata) tsn (data_of f) f.bytes (in_width tsn f t a.0) w.0.0 w.0.1),
  each_read idata (wrap_suc 32 tsn) fs (wrapped tsn) w.1 a.1,
)

-- ---- the call

module _ (s : State) (es bs : List ℕ) (time : ℕ) (p : Packet) where
  abbrev q : Queue
  q = queue_of s

  abbrev len : ℕ
  len = length s.store

  refuses : (n : ℕ) → first_refusal (fill_checks (length s.store) (places_in es) (length bs) time p.limit (queue_of s)) ≡ some n → meant (fill es bs time p) s ≡ refuse (queue_of s) n
  unfolding run.step spec.fill checked refused_or
  refuses n e = rw e

  module _ (k n m : ℕ) (told : (packed_of es bs (meant (fill es bs time p) s).outcome).answer ≡ filled (packet.Filled k n m)) where
    -- no check applies where a packet is told
    judged : (x : Option ℕ) → first_refusal (fill_checks (length s.store) (places_in es) (length bs) time p.limit (queue_of s)) ≡ x → x ≡ none
    judged none e = refl
    judged (some c) e =
        let z : (packed_of es bs (refuse (queue_of s) c).outcome).answer ≡ filled (packet.Filled k n m) = ap (λ (x : Step). (packed_of es bs x.outcome).answer) (sym (refuses c e)) ∙ told in
        let y : ◌≡◌ {A = ℕ} 0 1 = cc in absurd (omega arith)

    passed : first_refusal (fill_checks (length s.store) (places_in es) (length bs) time p.limit (queue_of s)) ≡ none
    passed = judged _ refl

pub request5 : Request5
unfolding Request5 model.Request5
request5 a l s es bs time p k n m r t e =
    let st = stands a l s r in
    let h = step_link (fill es bs time p) s st.good t in
    let told : (packed_of es bs (meant (fill es bs time p) s).outcome).answer ≡ filled (packet.Filled k n m) = ap (λ (x : Shown). x.answer) (sym h.shows_are) ∙ e in
    let f : Fills (length s.store) (places_in es) (length bs) time (packet_of p) (queue_of s) = theorem.request5 (options_with a l) (queue_of s) (length s.store) (places_in es) (length bs) time (packet_of p) st.reachable (passed s es bs time p k n m told) in
    let cs = separate_calls (length s.store) (places_in es) time f.sizes in
    let fs : List Fragment = shown_fragments (run.run cs (queue_of s)) in
    let vs : List Event = shown_events (run.run cs (queue_of s)) in
    let pb : List ℕ = packet_bytes (queue_of s).interleaving (packet_of p) fs in
    let said : filled (packet.Filled (length vs) (length pb) (length fs)) ≡ filled (packet.Filled k n m) = ap (λ (x : Step). (packed_of es bs x.outcome).answer) (sym f.same_step) ∙ told in
    let ek : length vs ≡ k = cc in let en : length pb ≡ n = cc in let em : length fs ≡ m = cc in
    let buffer : (step (fill es bs time p) s).shows.buffer ≡ pb ++ drop (length pb) bs = ap (λ (x : Shown). x.buffer) h.shows_are ∙ ap (λ (x : Step). (packed_of es bs x.outcome).buffer) f.same_step in
    let front : take n (step (fill es bs time p) s).shows.buffer ≡ pb = ap₂ take (sym en) buffer ∙ take-append_seam pb (drop (length pb) bs) in
    let cut : cut_chunks m (drop common_header_length (take n (step (fill es bs time p) s).shows.buffer)) ≡ each_chunk (queue_of s).interleaving p.tsn fs =
    ap₂ (λ (i : ℕ) (x : List ℕ). cut_chunks i (drop common_header_length x)) (sym em) front ∙ f.reads_back in
    let few = f.events_few in let short = f.packet_fits in
    record {
      sizes = f.sizes;
      asks = f.asks;
      reads = subst (EachRead (kind_of (queue_of s).interleaving) p.tsn fs) (sym cut) (each_read (queue_of s).interleaving p.tsn fs t.1.1.1.tsn f.writable (all_fit (length s.store) (places_in es) time f.sizes (queue_of s) st.good.well));
      counted = sym em;
      leaves = h.next_is ∙ ap (λ (x : Step). x.next) f.same_step;
      events = ap (λ (x : Shown). x.events) h.shows_are ∙ ap (λ (x : Step). (packed_of es bs x.outcome).events) f.same_step;
      events_counted = sym ek;
      suffice = omega (arith, few, ek);
      fits = omega (arith, short, en);
    }
