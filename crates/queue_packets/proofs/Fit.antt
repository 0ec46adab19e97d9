-- The numbers of the fragments that calls give have their widths. Assumes nothing.
use mathlib.Core.Path.{sym, subst}
use mathlib.Core.List.{List, [], ◌∷◌}
use mathlib.Core.Option.{Option, none, some}
use Prim.Native.Nat.{ℕ, ◌<◌, ◌^◌}
use Rattle.queue_model.specs.Types.{Queue, Fragment, Answer, Stream, Item, Active, Step}
use Rattle.queue_model.specs.Answers.{fragment_in}
use Rattle.queue_model.specs.Produce.{produce, make_fragment, numbered}
use Rattle.queue_model.specs.Packets.{before, shown_fragments, separate_calls}
use Rattle.queue_model.specs.Run as run
use Rattle.queue_model.proofs.Invariant.Well.{Well}
use Rattle.queue_model.proofs.Invariant.Passing.{Next, refuses, passes, Ends, none_waits, hands_out, next_fragment}
use Rattle.queue_model.proofs.Invariant.Sends.{Chosen, head_kept, head_well, numbers_well, fine_produce}

pub record Fits (f : Fragment) : Type 0 where
  pub id_fits : f.stream_id < 2 ^ 16
  pub ssn_fits : f.ssn < 2 ^ 16
  pub mid_fits : f.mid < 2 ^ 32
  pub fsn_fits : f.fsn < 2 ^ 32
  pub ppid_fits : f.ppid < 2 ^ 32

-- Of the fragment in an answer, if it is one.
abbrev pub MaybeFits : Option Fragment → Type 0
MaybeFits none = Unit {0}
MaybeFits (some f) = Fits f

made_fits : (q : Queue) (a : Active) (t : Stream) (i : Item) (is : List Item) (n : ℕ) → Well q → Chosen q a t i is → Fits (make_fragment t (numbered t.counters i).item n)
unfolding make_fragment
made_fits q a t i is n w c =
    let h = c.choice_head in
    let k = head_kept q a.stream_id t i is w h in
    let j = (numbers_well t.counters i k.counters_fit (head_well q a.stream_id t i is w h).0).item_well in
    record { id_fits = k.id_fits; ssn_fits = j.ssn_fits; mid_fits = j.mid_fits; fsn_fits = j.fsn_fits; ppid_fits = j.ppid_fits }

pub one_fits : (store places buffer now size : ℕ) (q : Queue) → Well q → MaybeFits (fragment_in (produce store places buffer now size q).outcome.answer)
one_fits store places buffer now size q w = go (next_fragment store places buffer now size q w)
  where
    ends : (r : Queue) (s : Step) → Well r → Ends r s → MaybeFits (fragment_in s.outcome.answer)
    ends r s v (none_waits e f g) = subst (λ (x : Answer). MaybeFits (fragment_in x)) (sym f) tt
    ends r s v (hands_out a t i is n e c l m f g) = subst (λ (x : Answer). MaybeFits (fragment_in x)) (sym f) (made_fits r a t i is n v c)

    go : {s : Step} → Next now q s → MaybeFits (fragment_in s.outcome.answer)
    go (refuses n e) = subst (λ (x : Step). MaybeFits (fragment_in x.outcome.answer)) (sym e) tt
    go {s} (passes p) = ends p.past s p.well p.ends

abbrev pub AllFit : List Fragment → Type 0
AllFit [] = Unit {0}
AllFit (f ∷ fs) = Fits f × AllFit fs

before_fits : (x : Option Fragment) (fs : List Fragment) → MaybeFits x → AllFit fs → AllFit (before x fs)
before_fits none fs a b = b
before_fits (some f) fs a b = (a, b)

pub all_fit : (store places now : ℕ) (ns : List ℕ) (q : Queue) → Well q → AllFit (shown_fragments (run.run (separate_calls store places now ns) q))
unfolding run.run run.step shown_fragments
all_fit store places now [] q w = tt
all_fit store places now (n ∷ ns) q w =
    before_fits (fragment_in (produce store places n now n q).outcome.answer) (shown_fragments (run.run (separate_calls store places now ns) (produce store places n now n q).next))
    (one_fits store places n now n q w) (all_fit store places now ns (produce store places n now n q).next (fine_produce store places n now n q w).next_well)
