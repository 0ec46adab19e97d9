-- What holds of each id is said row by row.
use Rattle.std.proofs.Common.{◌≡◌, ℕ, zero, suc, List, [], ◌∷◌, length, refl, sym, ◌∙◌, rules, tests}
use Rattle.std.specs.Prelude.{leb}
use Rattle.std.specs.List.{list_all}
use Rattle.std.proofs.lemmas.Iterator.{YieldsList-from_slice}
use Rattle.std.proofs.lemmas.Iterator.Search.{all_from_yields_List}
use borrow.Author.Tests.{lt-ltb, le-ltb, le-leb, lt-leb}
use Rattle.queue_words.proofs.Finds.{by_lt}
use Rattle.queue_words.specs.declared.active.ActiveStreamInfo.{ActiveStreamInfo}
use Rattle.active_table.specs.Passing.{ids_behind_words}
use Rattle.active_table.specs.Parts.{rows_of}
use Rattle.active_table.proofs.ids_behind.Goals as goal

module _ (id : ℕ) where
  later : (rows : ℕ → ActiveStreamInfo) (i n : ℕ) → ids_behind_words rows id (suc i) n ≡ ids_behind_words (λ k. rows (suc k)) id i n
  unfolding ids_behind_words
  later rows i zero = refl
  later rows i (suc n) = rw (later rows (suc i) n)

  each : (t : List ActiveStreamInfo) → list_all (λ r. leb id r.stream_id.0) t ≡ ids_behind_words (rows_of t) id 0 (length t)
  unfolding ids_behind_words
  each [] = refl
  each (r ∷ t) = by_lt r.stream_id.0 id
      (λ l. rw (lt-ltb _ _ l, lt-leb _ _ l))
      (λ l. rw (le-ltb _ _ l, le-leb _ _ l) (each t ∙ sym (later (rows_of (r ∷ t)) 0 (length t))))

pub returns : goal.returns
returns c =
    let h : c.all.result ≡ list_all (λ r. leb c.args.id r.stream_id.0) c.args.table.now =
    all_from_yields_List (λ r. leb c.args.id r.stream_id.0) _ _ c.all.result c.all.ensures.ran (YieldsList-from_slice c.args.table.now c.iter.ensures.rest) (λ x b q k. search (rules, tests)) in
    h ∙ each c.args.id c.args.table.now
