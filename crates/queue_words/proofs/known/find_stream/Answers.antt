-- `queue_words::known::find_stream` meets its contract: each return is a case of `find_stream_words`. Assumes nothing.
use mathlib.Core.Path.{sym, subst, ◌∙◌}
use Prim.Native.Nat.{◌≤◌, ◌<◌}
use Rattle.queue_words.specs.declared.header.Totals.{Totals}
use Rattle.queue_words.proofs.Finds.{find_broken, among_is, place_broken, place_kept}
use Rattle.queue_words.proofs.known.find_stream.Goals as goal

-- `queue_words::known::find_stream` meets its contract: each return is a case of `find_stream_words`. Assumes nothing.
pub returns-then-t-gt-STREAMS : goal.returns-then-t-gt-STREAMS
returns-then-t-gt-STREAMS c = sym (find_broken _ _ (subst (λ (t : Totals). 256 < t.known) c.load_totals-t.ensures c.if-t-gt-STREAMS.true))

pub returns-then-row-gt-LAST_STREAM_ROW : goal.returns-then-row-gt-LAST_STREAM_ROW
returns-then-row-gt-LAST_STREAM_ROW c =
    sym (place_broken _ _ c.if-row-gt-LAST_STREAM_ROW.true) ∙ c.in-At.ensures
    ∙ among_is _ _ (subst (λ (t : Totals). t.known ≤ 256) c.load_totals-t.ensures c.if-t-gt-STREAMS.false)

pub returns-else-row-gt-LAST_STREAM_ROW : goal.returns-else-row-gt-LAST_STREAM_ROW
returns-else-row-gt-LAST_STREAM_ROW c =
    sym (place_kept _ _ c.if-row-gt-LAST_STREAM_ROW.false) ∙ c.in-At.ensures
    ∙ among_is _ _ (subst (λ (t : Totals). t.known ≤ 256) c.load_totals-t.ensures c.if-t-gt-STREAMS.false)

pub returns-in-Gap : goal.returns-in-Gap
returns-in-Gap c =
    c.in-Gap.ensures
    ∙ among_is _ _ (subst (λ (t : Totals). t.known ≤ 256) c.load_totals-t.ensures c.if-t-gt-STREAMS.false)
