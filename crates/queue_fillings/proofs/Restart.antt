-- After a strict reset the first fragment of every stream starts afresh (request 6/13), in packets too. Assumes nothing.
use mathlib.Core.Path.{◌≡◌, sym, ap, ◌∙◌, subst}
use mathlib.Core.Bool.{Bool, true, false}
use mathlib.Core.List.{List, [], ◌∷◌, ◌++◌}
use Prim.Native.Nat.{ℕ}
use native.Mathlib.Omega.{arith}
use Rattle.queue_words.specs.Flags.{pick}
use Rattle.queue_runs.specs.Calls.{Call, fill, reset, Shown}
use Rattle.queue_runs.specs.Run as runs
use Rattle.queue_runs.specs.Run.{State, step}
use Rattle.queue_runs.specs.Meaning.{GoodState, AllTyped}
use Rattle.queue_runs.specs.Refusals.{refusal}
use Rattle.queue_runs.specs.Restart as separate
use Rattle.queue_runs.specs.Restart.{fragments, FirstAfresh}
use Rattle.queue_runs.proofs.Steps.{step_link}
use Rattle.queue_runs.proofs.Demand3.{stands}
use Rattle.queue_runs.proofs.Restart.{request6_starts}
use Rattle.queue_fillings.specs.Expanded.{separately, sizes_asked, instead, expanded}
use Rattle.queue_fillings.specs.Restart.{NotRestored, NoneRestored, Request6Packets}
use Rattle.queue_fillings.proofs.Same.{Same, same_back, shows_same, next_same}
use Rattle.queue_fillings.proofs.Expanded.{Kind, alone, fills, kind_of, stands_call, whole}

-- ------------------------------------------------------------------ no restoring

none_append : (cs ds : List Call) (s : State) → separate.NoneRestored cs s → separate.NoneRestored ds (runs.after cs s) → separate.NoneRestored (cs ++ ds) s
unfolding runs.after
none_append [] ds s n m = m
none_append (c ∷ cs) ds s n m = (n.0, none_append cs ds (step c s).next n.1 m)

none_same : (cs : List Call) (s t : State) → Same s t → AllTyped cs → separate.NoneRestored cs s → separate.NoneRestored cs t
none_same [] s t h u n = tt
none_same (c ∷ cs) s t h u n = (
  (λ time image e f. n.0.0 time image e (ap (λ (o : Shown). refusal o.answer) (shows_same c s t h u.0) ∙ f), n.0.1),
  none_same cs (step c s).next (step c t).next (next_same c s t h u.0) u.1 n.1,
)

separately_none : (es bs : List ℕ) (time : ℕ) (ns : List ℕ) (s : State) → separate.NoneRestored (separately es bs time ns) s
separately_none es bs time [] s = tt
separately_none es bs time (n ∷ ns) s = (((λ x y e f. let z : ◌≡◌ {A = ℕ} 0 1 = cc in omega arith), (λ u v w x e. let z : ◌≡◌ {A = ℕ} 0 1 = cc in omega arith)), separately_none es bs time ns _)

instead_none : (c : Call) (s : State) → NotRestored c s → separate.NoneRestored (instead c s) s
instead_none c s n = go (kind_of c s)
  where
    chosen : (es bs : List ℕ) (time : ℕ) (ns : List ℕ) (b : Bool) → separate.NoneRestored (pick b [] (separately es bs time ns)) s
    chosen es bs time ns true = tt
    chosen es bs time ns false = separately_none es bs time ns s

    go : Kind c s → separate.NoneRestored (instead c s) s
    go (alone m e) = subst (λ (cs : List Call). separate.NoneRestored cs s) (sym e) ((n, m), tt)
    go (fills es bs time p e) = subst (λ (d : Call). separate.NoneRestored (instead d s) s) (sym e) (chosen es bs time (sizes_asked es time p s) (refusal (step (fill es bs time p) s).shows.answer))

expanded_none : (cs : List Call) (s : State) → GoodState s → AllTyped cs → NoneRestored cs s → separate.NoneRestored (expanded cs s) s
unfolding expanded
expanded_none [] s g t n = tt
expanded_none (c ∷ cs) s g t n =
    let s' : State = (step c s).next in
    let g' = (step_link c s g t.0).good in
    none_append (instead c s) (expanded cs s') s (instead_none c s n.0)
    (none_same (expanded cs s') s' (runs.after (instead c s) s) (same_back (stands_call c s g t.0).leads) (whole cs s' g' t.1).typed (expanded_none cs s' g' t.1 n.1))

-- ------------------------------------------------------------------ THE THEOREM

pub request6_packets : Request6Packets
unfolding Request6Packets separate.Request6Starts
request6_packets a len s cs k e r t n =
    let g = (step_link reset s (stands a len s r).good tt).good in
    let w = whole cs (step reset s).next g t in
    let m = request6_starts a len s (expanded cs (step reset s).next) k e r w.typed (expanded_none cs (step reset s).next g t n) in
    record { accepted = m.accepted; starts = subst (λ (os : List Shown). FirstAfresh (fragments k os)) w.shows m.starts }
