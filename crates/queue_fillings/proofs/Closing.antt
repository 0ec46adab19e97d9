-- The job closer's theorem (request 3/13) over any calls, fillings among them. Assumes nothing.
use mathlib.Core.Path.{◌≡◌, refl, sym, ap, ap₂, ◌∙◌, subst}
use mathlib.Core.Bool.{Bool, true, false, ◌||◌}
use mathlib.Core.List.{List, [], ◌∷◌, ◌++◌, append_assoc, append-nil}
use Prim.Native.Nat.{ℕ, suc, ◌≤◌}
use native.Mathlib.Omega.{arith}
use lib.ListN.{length, take, length-append}
use lib.Seq.{length-take-le}
use Rattle.queue_words.specs.Flags.{pick}
use Rattle.queue_model.specs.Logic.{any}
use Rattle.queue_model.specs.Types as plain
use Rattle.queue_model.specs.Types.{Outcome}
use Rattle.queue_model.specs.Answers.{is_refused}
use Rattle.queue_model.specs.Run as run
use Rattle.queue_model.specs.Calls as calls
use Rattle.queue_questions.specs.Questions.{total_of}
use Rattle.queue_streams.specs.Events.{places_in}
use Rattle.queue_sending.specs.Produced as produced
use Rattle.linked_streams.proofs.Asks.{total_asked}
use Rattle.linked_sending.specs.Meaning.{produced_of}
use Rattle.linked_packets.specs.Meaning.{filled_of}
use Rattle.packets.specs.declared.packet.Packet.{Packet}
use Rattle.packets.specs.PacketFilled as packet
use Rattle.packets.specs.Filling.{packet_of}
use Rattle.queue_runs.specs.Calls.{Call, produce, fill, close, ready_ids, reset, Typed, Shown, sent, filled}
use Rattle.queue_runs.specs.Run as runs
use Rattle.queue_runs.specs.Run.{State, step}
use Rattle.queue_runs.specs.Meaning.{queue_of, GoodState, AllTyped}
use Rattle.queue_runs.specs.Refusals.{refusal}
use Rattle.queue_runs.specs.Closing as separate
use Rattle.queue_runs.specs.Closing.{tells, Ready, ready_now, told_before}
use Rattle.queue_runs.proofs.Steps.{Stepped, step_link, meant}
use Rattle.queue_runs.proofs.Demand3.{stands}
use Rattle.queue_runs.proofs.Closing.{request3_closing}
use Rattle.queue_fillings.specs.Expanded.{separately, sizes_asked, instead, expanded, apart}
use Rattle.queue_fillings.specs.Closing.{NoReset, Asks, asks, packs, AllAsk, Closed, Request3Packets}
use Rattle.queue_fillings.proofs.Same.{Same, same_back, shows_same, next_same}
use Rattle.queue_fillings.proofs.Separate.{AllWithin, accepted_past}
use Rattle.queue_fillings.proofs.Expanded.{typed_append, told, within, Kind, alone, fills, kind_of, stands_call, Whole, whole}
use Rattle.queue_fillings.proofs.Calls.{no_chunk, AllGive, all_give, some_call, one_call}

-- ------------------------------------------------------------------ no reset

no_append : (cs ds : List Call) → separate.NoReset cs → separate.NoReset ds → separate.NoReset (cs ++ ds)
no_append [] ds n m = m
no_append (c ∷ cs) ds n m = (n.0, no_append cs ds n.1 m)

separately_no : (es bs : List ℕ) (time : ℕ) (ns : List ℕ) → separate.NoReset (separately es bs time ns)
separately_no es bs time [] = tt
separately_no es bs time (n ∷ ns) = (((λ e. let z : ◌≡◌ {A = ℕ} 0 1 = cc in omega arith), (λ u v w x e. let z : ◌≡◌ {A = ℕ} 0 1 = cc in omega arith)), separately_no es bs time ns)

instead_no : (c : Call) (s : State) → (c ≡ reset → ⊥) → separate.NoReset (instead c s)
instead_no c s n = go (kind_of c s)
  where
    chosen : (es bs : List ℕ) (time : ℕ) (ns : List ℕ) (b : Bool) → separate.NoReset (pick b [] (separately es bs time ns))
    chosen es bs time ns true = tt
    chosen es bs time ns false = separately_no es bs time ns

    go : Kind c s → separate.NoReset (instead c s)
    go (alone m e) = subst separate.NoReset (sym e) ((n, m), tt)
    go (fills es bs time p e) = subst (λ (d : Call). separate.NoReset (instead d s)) (sym e) (chosen es bs time (sizes_asked es time p s) (refusal (step (fill es bs time p) s).shows.answer))

expanded_no : (cs : List Call) (s : State) → NoReset cs → separate.NoReset (expanded cs s)
unfolding expanded
expanded_no [] s n = tt
expanded_no (c ∷ cs) s n = no_append (instead c s) (expanded cs (step c s).next) (instead_no c s n.0) (expanded_no cs (step c s).next n.1)

-- ------------------------------------------------------------------ the ready ids that are told

any_append : (f : Shown → Bool) (xs ys : List Shown) → any f (xs ++ ys) ≡ (any f xs || any f ys)
unfolding any
any_append f [] ys = refl
any_append f (x ∷ xs) ys = ap (λ (b : Bool). f x || b) (any_append f xs ys) ∙ sym (or_assoc (f x) (any f xs) (any f ys))
  where
    or_assoc : (a b c : Bool) → ((a || b) || c) ≡ (a || (b || c))
    or_assoc true b c = refl
    or_assoc false b c = refl

or_false : (b : Bool) → (b || false) ≡ b
or_false true = refl
or_false false = refl

-- The calls for the next fragment tell none, a filling neither.
separately_untold : (k : ℕ) (es bs : List ℕ) (time : ℕ) (ns : List ℕ) (s : State) → any (tells k) (runs.run (separately es bs time ns) s) ≡ false
unfolding any runs.run step
separately_untold k es bs time [] s = refl
separately_untold k es bs time (n ∷ ns) s = separately_untold k es bs time ns (step (produce es (take n bs) time n) s).next

fill_untold : (k : ℕ) (es bs : List ℕ) (time : ℕ) (p : Packet) (s : State) → tells k (step (fill es bs time p) s).shows ≡ false
unfolding any step
fill_untold k es bs time p s = refl

instead_told : (k : ℕ) (c : Call) (s : State) → any (tells k) (runs.run (instead c s) s) ≡ tells k (step c s).shows
unfolding any runs.run
instead_told k c s = go (kind_of c s)
  where
    chosen : (es bs : List ℕ) (time : ℕ) (ns : List ℕ) (b : Bool) → any (tells k) (runs.run (pick b [] (separately es bs time ns)) s) ≡ false
    chosen es bs time ns true = refl
    chosen es bs time ns false = separately_untold k es bs time ns s

    one : any (tells k) (runs.run (c ∷ []) s) ≡ tells k (step c s).shows
    one = or_false (tells k (step c s).shows)

    go : Kind c s → any (tells k) (runs.run (instead c s) s) ≡ tells k (step c s).shows
    go (alone m e) = ap (λ (cs : List Call). any (tells k) (runs.run cs s)) e ∙ one
    go (fills es bs time p e) =
        subst (λ (d : Call). any (tells k) (runs.run (instead d s) s) ≡ tells k (step d s).shows) (sym e)
        (chosen es bs time (sizes_asked es time p s) (refusal (step (fill es bs time p) s).shows.answer) ∙ sym (fill_untold k es bs time p s))

apart_told : (k : ℕ) (cs : List Call) (s : State) → any (tells k) (apart cs s) ≡ any (tells k) (runs.run cs s)
unfolding any apart runs.run
apart_told k [] s = refl
apart_told k (c ∷ cs) s = any_append (tells k) (runs.run (instead c s) s) (apart cs (step c s).next) ∙ ap₂ ◌||◌ (instead_told k c s) (apart_told k cs (step c s).next)

-- A stream that is ready after the separate calls is ready after the fillings.
ready_back : (k : ℕ) (cs : List Call) (s : State) → Whole cs s → Ready k s (expanded cs s) → Ready k s cs
ready_back k cs s w (ready_now e) = ready_now (ap (tells k) (sym (shows_same ready_ids (runs.after (expanded cs s) s) (runs.after cs s) w.leads tt)) ∙ e)
ready_back k cs s w (told_before e) = told_before (sym (ap (any (tells k)) w.shows ∙ apart_told k cs s) ∙ e)

-- ------------------------------------------------------------------ next fragments behind the calls

expanded_append : (cs ds : List Call) (s : State) → expanded (cs ++ ds) s ≡ expanded cs s ++ expanded ds (runs.after cs s)
unfolding expanded runs.after
expanded_append [] ds s = refl
expanded_append (c ∷ cs) ds s =
    ap (λ (l : List Call). instead c s ++ l) (expanded_append cs ds (step c s).next) ∙ sym (append_assoc (instead c s) (expanded cs (step c s).next) (expanded ds (runs.after cs (step c s).next)))

ask_same : (c : Call) (s t : State) → Same s t → Typed c → separate.Asks s c → separate.Asks t c
ask_same c s t h u (separate.asks es bs time size r) = separate.asks es bs time size (ap (λ (o : Shown). refusal o.answer) (sym (shows_same (produce es bs time size) s t h u)) ∙ r)

asks_same : (ps : List Call) (s t : State) → Same s t → AllTyped ps → separate.AllAsk ps s → separate.AllAsk ps t
asks_same [] s t h u a = tt
asks_same (c ∷ ps) s t h u a = (ask_same c s t h u.0 a.0, asks_same ps (step c s).next (step c t).next (next_same c s t h u.0) u.1 a.1)

asks_append : (cs ds : List Call) (s : State) → separate.AllAsk cs s → separate.AllAsk ds (runs.after cs s) → separate.AllAsk (cs ++ ds) s
unfolding runs.after
asks_append [] ds s a b = b
asks_append (c ∷ cs) ds s a b = (a.0, asks_append cs ds (step c s).next a.1 b)

sent_accepted : (a : plain.Answer) (k : ℕ) → refusal (sent (produced_of a k)) ≡ is_refused a
sent_accepted (plain.refused n) k = refl
sent_accepted plain.done k = refl
sent_accepted (plain.number m) k = refl
sent_accepted (plain.flag b) k = refl
sent_accepted (plain.ids l) k = refl
sent_accepted (plain.fragment f) k = refl
sent_accepted plain.nothing_waits k = refl
sent_accepted (plain.filled bs n) k = refl

-- The separate calls of a filling that is not refused are not refused either.
separately_ask : (es bs : List ℕ) (time : ℕ) (ns : List ℕ) (s : State) → GoodState s → AllTyped (separately es bs time ns) → AllWithin (length bs) ns → AllGive (length s.store) (places_in es) time ns (queue_of s)
    → separate.AllAsk (separately es bs time ns) s
unfolding run.step
separately_ask es bs time [] s g t w a = tt
separately_ask es bs time (n ∷ ns) s g t w a = (separate.asks es (take n bs) time n accepted, separately_ask es bs time ns (step c s).next h.good t.1 w.1 gives)
  where
    c : Call
    c = produce es (take n bs) time n

    h : Stepped (produce es (take n bs) time n) s
    h = step_link (produce es (take n bs) time n) s g t.0

    meant_is : meant (produce es (take n bs) time n) s ≡ calls.produce (length s.store) (places_in es) n time n (queue_of s)
    meant_is = ap (λ (l : ℕ). calls.produce (length s.store) (places_in es) l time n (queue_of s)) (length-take-le n bs w.0)

    accepted : refusal (step (produce es (take n bs) time n) s).shows.answer ≡ false
    accepted =
        ap (λ (x : Shown). refusal x.answer) h.shows_are ∙ sent_accepted (meant (produce es (take n bs) time n) s).outcome.answer (length (meant (produce es (take n bs) time n) s).outcome.events)
        ∙ ap (λ (x : plain.Step). is_refused x.outcome.answer) meant_is ∙ a.0

    gives : AllGive (length (step (produce es (take n bs) time n) s).next.store) (places_in es) time ns (queue_of (step (produce es (take n bs) time n) s).next)
    gives =
        subst (λ (l : ℕ). AllGive l (places_in es) time ns (queue_of (step (produce es (take n bs) time n) s).next)) (sym h.same_store)
        (subst (AllGive (length s.store) (places_in es) time ns) (sym (h.next_is ∙ ap (λ (x : plain.Step). x.next) meant_is)) a.1)

-- What stands for a call that is not refused asks, and is one call at least.
record InItsPlace (cs ds : List Call) (s : State) : Type 0 where
  all_ask : separate.AllAsk ds s
  as_many : length cs ≤ length ds

packs_ask : (es bs : List ℕ) (time : ℕ) (p : Packet) (s : State) → GoodState s → Typed (fill es bs time p) → refusal (step (fill es bs time p) s).shows.answer ≡ false → InItsPlace (fill es bs time p ∷ []) (instead (fill es bs time p) s) s
packs_ask es bs time p s g t r =
    let e : is_refused (meant (fill es bs time p) s).outcome.answer ≡ false = sym (told es bs time p s g t) ∙ r in
    let z = accepted_past (length s.store) (places_in es) (length bs) time (packet_of p) (queue_of s) e in
    let i : separately es bs time (sizes_asked es time p s) ≡ instead (fill es bs time p) s = ap (λ (b : Bool). pick b [] (separately es bs time (sizes_asked es time p s))) (sym r) in
    subst (λ (ds : List Call). InItsPlace (fill es bs time p ∷ []) ds s) i
    (record {
      all_ask = separately_ask es bs time (sizes_asked es time p s) s g (subst AllTyped (sym i) (stands_call (fill es bs time p) s g t).typed) (within es bs time p s g t e)
          (all_give (length s.store) (places_in es) (length bs) time (packet_of p) (queue_of s) g.well z);
      as_many = long (sizes_asked es time p s) (some_call (length s.store) (places_in es) (length bs) time (packet_of p) (queue_of s) g.well z);
    })
  where
    long : (ns : List ℕ) → 1 ≤ length ns → 1 ≤ length (separately es bs time ns)
    long [] l = l
    long (n ∷ ns) l = omega arith

one_asks : (c : Call) (s : State) → GoodState s → Typed c → Asks s c → InItsPlace (c ∷ []) (instead c s) s
one_asks c s g t (asks es bs time size r) = record { all_ask = (separate.asks es bs time size r, tt); as_many = omega arith }
one_asks c s g t (packs es bs time p r) = packs_ask es bs time p s g t r

asks_expanded : (ps : List Call) (s : State) → GoodState s → AllTyped ps → AllAsk ps s → InItsPlace ps (expanded ps s) s
unfolding expanded
asks_expanded [] s g t a = record { all_ask = tt; as_many = omega arith }
asks_expanded (c ∷ ps) s g t a =
    let s' : State = (step c s).next in
    let g' = (step_link c s g t.0).good in
    let x = one_asks c s g t.0 a.0 in
    let y = asks_expanded ps s' g' t.1 a.1 in
    let l = length-append (instead c s) (expanded ps s') in let m = x.as_many in let n = y.as_many in
    record {
      all_ask = asks_append (instead c s) (expanded ps s') s x.all_ask (asks_same (expanded ps s') s' (runs.after (instead c s) s) (same_back (stands_call c s g t.0).leads) (whole ps s' g' t.1).typed y.all_ask);
      as_many = omega (arith, l, m, n);
    }

-- ------------------------------------------------------------------ a filling without a chunk

expanded_one : (c : Call) (s : State) → expanded (c ∷ []) s ≡ instead c s
unfolding expanded
expanded_one c s = append-nil (instead c s)

-- One call for the next fragment stands for it, which says that nothing waits.
record OneFilled (es bs : List ℕ) (time : ℕ) (p : Packet) (s : State) : Type 0 where
  less : ℕ
  events : ℕ
  can : Typed (produce es (take (suc less) bs) time (suc less))
  stands_for : instead (fill es bs time p) s ≡ produce es (take (suc less) bs) time (suc less) ∷ []
  says : (step (produce es (take (suc less) bs) time (suc less)) s).shows.answer ≡ sent (produced.Nothing events)

-- Where it is accepted and asks for one size, at which nothing waits.
module _ (es bs : List ℕ) (time : ℕ) (p : Packet) (s : State) (g : GoodState s) (t : Typed (fill es bs time p)) (accepted : refusal (step (fill es bs time p) s).shows.answer ≡ false) (m : ℕ)
    (sizes_are : sizes_asked es time p s ≡ suc m ∷ []) (short : suc m ≤ length bs) (none_waits : (run.step (run.produce (length s.store) (places_in es) (suc m) time (suc m)) (queue_of s)).outcome.answer ≡ plain.nothing_waits) where
  abbrev one : Call
  one = produce es (take (suc m) bs) time (suc m)

  stands_for_it : instead (fill es bs time p) s ≡ one ∷ []
  stands_for_it = ap (λ (b : Bool). pick b [] (separately es bs time (sizes_asked es time p s))) accepted ∙ ap (separately es bs time) sizes_are

  typed_one : Typed one
  typed_one = (subst AllTyped stands_for_it (stands_call (fill es bs time p) s g t).typed).0

  answers : (meant one s).outcome.answer ≡ plain.nothing_waits
  answers = ap (λ (l : ℕ). (run.step (run.produce (length s.store) (places_in es) l time (suc m)) (queue_of s)).outcome.answer) (length-take-le (suc m) bs short) ∙ none_waits

  one_stands : OneFilled es bs time p s
  one_stands = record {
    less = m;
    events = length (meant one s).outcome.events;
    can = typed_one;
    stands_for = stands_for_it;
    says = ap (λ (x : Shown). x.answer) (step_link one s g typed_one).shows_are ∙ ap (λ (x : plain.Answer). sent (produced_of x (length (meant one s).outcome.events))) answers;
  }

module _ (es bs : List ℕ) (time : ℕ) (p : Packet) (n : ℕ) (s : State) (g : GoodState s) (t : Typed (fill es bs time p)) (e : (step (fill es bs time p) s).shows.answer ≡ filled (packet.Filled n 0 0)) where
  abbrev said : Outcome
  said = (meant (fill es bs time p) s).outcome

  no_chunks : filled_of said.answer (length said.events) ≡ packet.Filled n 0 0
  no_chunks = let x : filled (filled_of said.answer (length said.events)) ≡ filled (packet.Filled n 0 0) = ap (λ (o : Shown). o.answer) (sym (step_link (fill es bs time p) s g t).shows_are) ∙ e in cc

  accepted_told : (x : plain.Answer) (k : ℕ) → filled_of x k ≡ packet.Filled n 0 0 → is_refused x ≡ false
  accepted_told (plain.refused r) k e = let z : ◌≡◌ {A = ℕ} 0 1 = cc in absurd (omega arith)
  accepted_told plain.done k e = refl
  accepted_told (plain.number r) k e = refl
  accepted_told (plain.flag b) k e = refl
  accepted_told (plain.ids l) k e = refl
  accepted_told (plain.fragment f) k e = refl
  accepted_told plain.nothing_waits k e = refl
  accepted_told (plain.filled cs r) k e = refl

  fits : {m : ℕ} → AllWithin (length bs) (m ∷ []) → m ≤ length bs
  fits w = w.0

  one_filled : OneFilled es bs time p s
  unfolding run.step
  one_filled =
      let j = no_chunk (length s.store) (places_in es) (length bs) time (packet_of p) (queue_of s) (length said.events) n no_chunks in
      let o = one_call (length s.store) (places_in es) (length bs) time (packet_of p) (queue_of s) g.well j.0 j.1 in
      one_stands es bs time p s g t (ap refusal e) o.less o.sizes_are (fits (subst (AllWithin (length bs)) o.sizes_are (within es bs time p s g t (accepted_told said.answer (length said.events) no_chunks)))) o.says

-- ------------------------------------------------------------------ THE THEOREM

module _ (k : ℕ) (is : List plain.Item) (s : State) (g : GoodState s) (d : separate.Closed k is s) where
  nothing : (cs : List Call) (es bs : List ℕ) (time size n : ℕ) → AllTyped cs → NoReset cs → Typed (produce es bs time size)
      → (step (produce es bs time size) (runs.after cs s)).shows.answer ≡ sent (produced.Nothing n) → Ready k s (cs ++ produce es bs time size ∷ [])
  unfolding expanded
  nothing cs es bs time size n t r u e =
      let c : Call = produce es bs time size in
      let w = whole cs s g t in
      let v = whole (cs ++ c ∷ []) s g (typed_append cs (c ∷ []) t (u, tt)) in
      let o = shows_same c (runs.after (expanded cs s) s) (runs.after cs s) w.leads u in
      ready_back k (cs ++ c ∷ []) s v
      (subst (Ready k s) (sym (expanded_append cs (c ∷ []) s ∙ ap (λ (l : List Call). expanded cs s ++ l) (alone_expanded c)))
      (d.none_waits (expanded cs s) es bs time size n w.typed (expanded_no cs s r) u (ap (λ (x : Shown). x.answer) o ∙ e)))
    where
      alone_expanded : (c : Call) → expanded (produce es bs time size ∷ []) (runs.after cs s) ≡ produce es bs time size ∷ []
      alone_expanded c = refl

  -- Without a chunk a filling is one call, which says that nothing waits.
  nothing_filled : (cs : List Call) (es bs : List ℕ) (time : ℕ) (p : Packet) (n : ℕ) → AllTyped cs → NoReset cs → Typed (fill es bs time p)
      → (step (fill es bs time p) (runs.after cs s)).shows.answer ≡ filled (packet.Filled n 0 0) → Ready k s (cs ++ fill es bs time p ∷ [])
  nothing_filled cs es bs time p n t r u e =
      let c : Call = fill es bs time p in
      let w = whole cs s g t in
      let v = whole (cs ++ c ∷ []) s g (typed_append cs (c ∷ []) t (u, tt)) in
      let o = one_filled es bs time p n (runs.after cs s) w.leads.good' u e in
      let d' : Call = produce es (take (suc o.less) bs) time (suc o.less) in
      let x = shows_same d' (runs.after (expanded cs s) s) (runs.after cs s) w.leads o.can in
      ready_back k (cs ++ c ∷ []) s v
      (subst (Ready k s) (sym (expanded_append cs (c ∷ []) s ∙ ap (λ (l : List Call). expanded cs s ++ l) (expanded_one c (runs.after cs s) ∙ o.stands_for)))
      (d.none_waits (expanded cs s) es (take (suc o.less) bs) time (suc o.less) o.events w.typed (expanded_no cs s r) o.can (ap (λ (y : Shown). y.answer) x ∙ o.says)))

  hangs : (cs ps : List Call) → AllTyped cs → NoReset cs → AllTyped ps → AllAsk ps (runs.after cs s) → total_of (runs.after cs s).words ≤ length ps → Ready k s (cs ++ ps)
  hangs cs ps t r u a l =
      let w = whole cs s g t in
      let v = whole (cs ++ ps) s g (typed_append cs ps t u) in
      let g' = w.leads.good' in
      let i = asks_expanded ps (runs.after cs s) g' u a in let m = i.as_many in
      let n = (whole ps (runs.after cs s) g' u).typed in
      let x = total_asked (runs.after (expanded cs s) s).words (runs.after (expanded cs s) s).store in
      let y = total_asked (runs.after cs s).words (runs.after cs s).store in
      let q : (queue_of (runs.after (expanded cs s) s)).total ≡ (queue_of (runs.after cs s)).total = ap (λ (z : plain.Queue). z.total) w.leads.queues in
      ready_back k (cs ++ ps) s v
      (subst (Ready k s) (sym (expanded_append cs ps s))
      (d.never_hangs (expanded cs s) (expanded ps (runs.after cs s)) w.typed (expanded_no cs s r) n (asks_same (expanded ps (runs.after cs s)) (runs.after cs s) (runs.after (expanded cs s) s) (same_back w.leads) n i.all_ask) (omega (arith, x, y, q, l, m))))

  closed : Closed k is s
  closed = record { course = λ cs t r. d.course (expanded cs s) (whole cs s g t).typed (expanded_no cs s r); none_waits = nothing; none_filled = nothing_filled; never_hangs = hangs }

pub request3_packets : Request3Packets
unfolding Request3Packets separate.Request3Closing
request3_packets a len es k s c =
    closed k _ (step (close es k) s).next (step_link (close es k) s (stands a len s c.reached).good c.typed).good (request3_closing a len es k s c)
